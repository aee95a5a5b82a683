use Rattle.rhai_text.proofs.ForCallers.{chars-one}
use Rattle.rhai_lines.proofs.Spoken.{character_is}
use Rattle.rhai_lines.proofs.spell.character.Goals as goal

pub returns : goal.returns
returns c =
    let e = c.encode_utf8 in
    rw (character_is c.args.verb.now c.args.c) (rw (chars-one e.result.now c.args.c e.utf8 e.ensures.value) at c.text.ensures)
