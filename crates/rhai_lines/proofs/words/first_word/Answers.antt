use Rattle.rhai_lines.proofs.Cuts.{word-cut, word-whole}
use Rattle.rhai_lines.proofs.words.first_word.Goals as goal

pub returns-in-Some : goal.returns-in-Some
returns-in-Some c =
    let p = word-cut c.args.text.now c.split_once.result (c.in-Some.word, c.in-Some.left) c.split_once.ensures.cases c.in-Some.is in
    record { word = p.0; left = p.1 }

pub returns-in-None : goal.returns-in-None
returns-in-None c =
    let p = word-whole c.args.text.now c.split_once.result c.split_once.ensures.cases c.in-None.is in
    record { word = p.0; left = p.1 }
