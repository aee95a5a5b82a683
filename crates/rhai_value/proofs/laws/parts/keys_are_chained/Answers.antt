use Rattle.rhai_value.proofs.Items.{key_inserted, key_changed, key_removed}
use Rattle.rhai_value.proofs.laws.parts.keys_are_chained.Goals as goal

pub returns-clause-inserted : goal.returns-clause-inserted
returns-clause-inserted c = key_inserted

pub returns-clause-changed : goal.returns-clause-changed
returns-clause-changed c = λ s t rs k texts text has v there. key_changed s t rs k texts text has v there

pub returns-clause-removed : goal.returns-clause-removed
returns-clause-removed c = λ s t rs k texts text has rising. key_removed s t rs k texts text has rising
