use Rattle.rhai_host.proofs.BytesAsText.{is_named, is_no_text, is_text}
use Rattle.rhai_host.proofs.texts.text_of.Goals as goal

pub returns-in_default-clause-text : goal.returns-in_default-clause-text
returns-in_default-clause-text c = is_no_text _ c.in_default.ensures.cases.0

pub returns-in-Ok-from_str-clause-text : goal.returns-in-Ok-from_str-clause-text
returns-in-Ok-from_str-clause-text c = is_named _ _ _ c.in-Ok.ensures.cases.0 c.in-Ok.ensures.cases.1 c.in-Ok-from_str.ensures.characters

pub returns-in-Err-clause-err : goal.returns-in-Err-clause-err
returns-in-Err-clause-err c = is_text _ c.in-Ok.ensures.cases.1
