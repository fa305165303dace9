-- From what is reported of the contents of a command's files to what is reported of the command.
use Rattle.std.proofs.Common.{◌≡◌, ℕ, suc, List, [], ◌∷◌, length, get_or, refl, sym, ◌∙◌, ap, subst, arith, Result, Ok, Err, IfOk}
use Rattle.merlin_base.specs.Outside.{KnownContents}
use Rattle.std.specs.declared.vec.Vec.{Vec}
use Rattle.std.specs.declared.alloc.Global.{Global}
use Rattle.merlin.specs.Reading.{AreContents, texts_read}
use Rattle.merlin.specs.declared.reading.Unread.{Unread}
use Rattle.merlin.specs.declared.reading.Unread.TheVariants as unread
use Rattle.merlin.specs.Outcome.{World, NoForm, NotRead, TooLong, Replied, IsNoForm}
use Rattle.merlin_base.specs.declared.status.Status.{Status}
use Rattle.merlin.specs.Reports.{IsReportWith, IsWrittenAs}
use Rattle.merlin.specs.Commands.{Form, IsForm}
use Rattle.merlin.specs.Contents.{AreContentsOf, IsUnreadOf}
use Rattle.merlin.specs.Parts.{IsReplyReport, IsReportOf, IsReportTo, Tells}
use Rattle.merlin.specs.declared.report.Report.{Report}

-- files that were read

one : {A : Type 0} (xs : List A) (a : A) → length xs ≡ 1 → a ≡ get_or xs 0 a → xs ≡ a ∷ []
one [] a long p = absurd (omega (arith, long))
one (x ∷ []) a long p = rw p
one (x ∷ y ∷ xs) a long p = absurd (omega (arith, long))

both : {A : Type 0} (xs : List A) (a b : A) → length xs ≡ 2 → a ≡ get_or xs 0 a → b ≡ get_or xs 1 b
    → xs ≡ a ∷ b ∷ []
both [] a b two p q = absurd (omega (arith, two))
both (x ∷ []) a b two p q = absurd (omega (arith, two))
both (x ∷ y ∷ []) a b two p q = rw (p, q)
both (x ∷ y ∷ z ∷ xs) a b two p q = absurd (omega (arith, two))

pub texts_of_one : (files : List (Vec ℕ Global)) (file : Vec ℕ Global) (bytes : List ℕ) → length files ≡ 1
    → file ≡ get_or files 0 file → bytes ≡ file.items → texts_read files ≡ bytes ∷ []
texts_of_one files file bytes long is same = ap texts_read (one files file long is) ∙ ap (λ x. x ∷ []) (sym same)

pub texts_of_both : (files : List (Vec ℕ Global)) (file other : Vec ℕ Global) (bytes more : List ℕ) → length files ≡ 2
    → file ≡ get_or files 0 file → other ≡ get_or files 1 other → bytes ≡ file.items → more ≡ other.items
    → texts_read files ≡ bytes ∷ more ∷ []
texts_of_both files file other bytes more long is is' same same' =
    ap texts_read (both files file other long is is') ∙ (ap (λ x. x ∷ other.items ∷ []) (sym same) ∙ ap (λ x. bytes ∷ x ∷ []) (sym same'))

all_three : {A : Type 0} (xs : List A) (a b c : A) → length xs ≡ 3 → a ≡ get_or xs 0 a → b ≡ get_or xs 1 b
    → c ≡ get_or xs 2 c → xs ≡ a ∷ b ∷ c ∷ []
all_three [] a b c three p q r = absurd (omega (arith, three))
all_three (x ∷ []) a b c three p q r = absurd (omega (arith, three))
all_three (x ∷ y ∷ []) a b c three p q r = absurd (omega (arith, three))
all_three (x ∷ y ∷ z ∷ []) a b c three p q r = rw (p, q, r)
all_three (x ∷ y ∷ z ∷ w ∷ xs) a b c three p q r = absurd (omega (arith, three))

pub texts_of_all_three : (files : List (Vec ℕ Global)) (file other last : Vec ℕ Global) (bytes more rest : List ℕ) → length files ≡ 3
    → file ≡ get_or files 0 file → other ≡ get_or files 1 other → last ≡ get_or files 2 last → bytes ≡ file.items → more ≡ other.items
    → rest ≡ last.items → texts_read files ≡ bytes ∷ more ∷ rest ∷ []
texts_of_all_three files file other last bytes more rest long is is' is'' same same' same'' =
    ap texts_read (all_three files file other last long is is' is'') ∙ (λ i. sym same i ∷ sym same' i ∷ sym same'' i ∷ [])

-- A reply of which something is true, and its lines and status.
pub IfOk-with : {R E : Type 0} (IsTrueOf : R → Type 0) (lines_of : R → List (List ℕ)) (status_of : R → Status) (reply : R) (result : Result Report E)
    → IsTrueOf reply → IfOk result (λ report. IsWrittenAs report.body (lines_of reply))
    → IfOk result (λ report. report.status ≡ status_of reply) → IfOk result (IsReportWith IsTrueOf lines_of status_of)
IfOk-with IsTrueOf lines_of status_of reply (Ok report) is lines status =
    record { reply = reply; is_true = is; lines = lines; status = status }
IfOk-with IsTrueOf lines_of status_of reply (Err e) is lines status = tt

-- From the parts to the report of a command line.

pub AreContents-length : (known : KnownContents) (files : List (List ℕ × ℕ)) (texts : List (List ℕ)) → AreContents known files texts
    → length texts ≡ length files
AreContents-length known [] [] are = refl
AreContents-length known [] (x ∷ texts) are = absurd are
AreContents-length known (f ∷ files) [] are = absurd are
AreContents-length known (f ∷ files) (x ∷ texts) are = ap suc (AreContents-length known files texts are.2)

pub texts_read-length : (contents : List (Vec ℕ Global)) → length (texts_read contents) ≡ length contents
texts_read-length [] = refl
texts_read-length (x ∷ contents) = ap suc (texts_read-length contents)

module _ (world : World) (words : List (List ℕ)) (report : Report) where
  pub IsReportTo-usage : IsNoForm words → IsReportOf NoForm report → IsReportTo world words report
  IsReportTo-usage none is = record { answer = NoForm; is_answer = none; is_report = is }

  pub IsReportTo-unread : (form : Form) (reason : Unread) → IsForm words form
      → IsUnreadOf world.known form world.before world.after reason → Tells reason report
      → IsReportTo world words report
  IsReportTo-unread form unread.Fault is h tells = record { answer = NotRead; is_answer = (form, is, h); is_report = tells }
  IsReportTo-unread form (unread.TooLong name) is h tells = record { answer = TooLong name; is_answer = (form, is, h); is_report = tells }
  IsReportTo-unread form unread.OutOfMemory is h tells = absurd tells

  pub IsReportTo-reply : (form : Form) (contents : List (List ℕ)) → IsForm words form
      → AreContentsOf world.known form contents → IsReplyReport world.behaviour form contents report
      → IsReportTo world words report
  IsReportTo-reply form contents is are h =
      record {
        answer = Replied form h.reply;
        is_answer = (contents, record { is_form = is; are_contents = are }, h.is_true);
        is_report = record { lines = h.lines; status = h.status };
      }

-- the same of what may have failed
pub IfOk-reported : {E : Type 0} (world : World) (words : List (List ℕ)) (result : Result Report E) (form : Form)
    (contents others : List (List ℕ)) → others ≡ contents → IsForm words form
    → AreContentsOf world.known form contents → IfOk result (IsReplyReport world.behaviour form others)
    → IfOk result (IsReportTo world words)
IfOk-reported world words (Ok report) form contents others same is are h =
    IsReportTo-reply world words report form contents is are (subst (λ xs. IsReplyReport world.behaviour form xs report) same h)
IfOk-reported world words (Err e) form contents others same is are h = tt
