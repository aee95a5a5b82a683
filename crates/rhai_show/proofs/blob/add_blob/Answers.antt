use Rattle.std.proofs.Common.{◌++◌, codes, string_bytes, refl, sym, ap, ◌∙◌, arith}
use Rattle.std.proofs.Math.ListN.{drop_of_length-le}
use Rattle.std.proofs.lemmas.List.{append-nil}
use Rattle.std.specs.Str.{chars}
use Rattle.rhai_show.specs.Leaves.{bytes_from}
use Rattle.rhai_show.proofs.Pushed.{enclosed}
use Rattle.rhai_show.proofs.blob.add_blob.Goals as goal

pub returns : goal.returns
returns c =
    let bytes = c.args.bytes.now in
    let text = chars (string_bytes c.loop-index.out) in
    let none = drop_of_length-le bytes {i = c.loop-index.index} (omega arith) in
    let all = sym (append-nil text) ∙ ap (λ bs. text ++ bytes_from c.loop-index.index bs) (sym none) ∙ c.loop-index.invariant in
    enclosed c.add_text-2.result _ text (chars (string_bytes c.add_text.new.out)) (chars (string_bytes c.args.out.now)) (codes "[") (bytes_from 0 bytes) (codes "]") refl refl c.in_ok-add_text.ensures all c.add_text-2.ensures
