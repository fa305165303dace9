-- The names of an object's members, as the map of the object has them.
use Rattle.std.proofs.Common.{◌≡◌, List, [], ◌∷◌, map, All, Some, String, string_bytes, refl, sym, ◌∙◌, ap, subst}
use Rattle.std.specs.List.{AllByRecursion}
use Rattle.std.specs.Map.{keys_of}
use Rattle.std.specs.declared.alloc.Global.{Global}
use Rattle.std.proofs.lemmas.List.Elements.{All-map, recursion_from_All, All-from_recursion}
use Rattle.serde_json.specs.Data.{Data}
use Rattle.serde_json.specs.View.{members_view}
use Rattle.serde_json.specs.Find.{as_object}
use Rattle.serde_json.specs.declared.value.Value.{Value}
use Rattle.topology_shape.specs.Json.{keys_of_members}
use Rattle.topology_shape.specs.Format.{IsSetKey, HasOnlySetKeys}
use Rattle.topology_shape.proofs.Told.{some_one}

keys_seen : (es : List (String Global × Value)) → keys_of_members (members_view es) ≡ map string_bytes (keys_of es)
keys_seen [] = refl
keys_seen (e ∷ es) = ap (λ ks. string_bytes e.0 ∷ ks) (keys_seen es)

all_unmap : {X Y : Type 0} (P : X → Type 0) (f : Y → X) (ys : List Y) → AllByRecursion P (map f ys) → AllByRecursion (λ y. P (f y)) ys
all_unmap P f [] all = tt
all_unmap P f (y ∷ ys) all = (all.0, all_unmap P f ys all.1)

module _ (d : Data) (es : List (String Global × Value)) (is : Some (members_view es) ≡ as_object d) where
  pub only_set_keys : All (λ key. IsSetKey (string_bytes key)) (keys_of es) → HasOnlySetKeys d
  only_set_keys all = (members_view es, sym is, subst (All IsSetKey) (sym (keys_seen es)) (All-map IsSetKey string_bytes (keys_of es) all))

  pub are_set_keys : HasOnlySetKeys d → All (λ key. IsSetKey (string_bytes key)) (keys_of es)
  are_set_keys (members, has, all) =
      let named : keys_of_members members ≡ map string_bytes (keys_of es) = ap keys_of_members (some_one has (sym is)) ∙ keys_seen es in
      All-from_recursion (λ key. IsSetKey (string_bytes key)) (keys_of es) (all_unmap IsSetKey string_bytes (keys_of es) (recursion_from_All IsSetKey (map string_bytes (keys_of es)) (subst (All IsSetKey) named all)))
