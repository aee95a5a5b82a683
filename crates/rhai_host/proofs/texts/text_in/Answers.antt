use Rattle.std.proofs.Common.{refl}
use Rattle.rhai_host.proofs.BytesAsText.{is_named, is_no_text}
use Rattle.rhai_host.proofs.texts.text_in.Goals as goal

pub returns-in-Ok : goal.returns-in-Ok
returns-in-Ok c = is_named _ _ _ c.in-Ok.ensures.cases.0 c.in-Ok.ensures.cases.1 refl

pub returns-in-Err : goal.returns-in-Err
returns-in-Err c = is_no_text _ c.in-Err.ensures.cases.0
