use Rattle.topology_shape.proofs.Texts.{texts_one, texts_locations, texts_apart, texts_forms}
use Rattle.topology_shape.proofs.laws.one_shape.Goals as goal

pub returns-clause-one : goal.returns-clause-one
returns-clause-one c = texts_one

pub returns-clause-locations : goal.returns-clause-locations
returns-clause-locations c = texts_locations

pub returns-clause-apart : goal.returns-clause-apart
returns-clause-apart c = texts_apart

pub returns-clause-forms : goal.returns-clause-forms
returns-clause-forms c = texts_forms
