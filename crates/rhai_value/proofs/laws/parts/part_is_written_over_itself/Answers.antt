use Rattle.rhai_value.proofs.Unchanged.{part_over, held_over, written_over}
use Rattle.rhai_value.proofs.laws.parts.part_is_written_over_itself.Goals as goal

pub returns : goal.returns
returns g c =
    let T = g.T.Part in
    let reads = g.met.T.Part.reads in
    record {
      own = part_over T.content T.part_of T.KIND reads;
      value = λ s t m h. (held_over T.content T.part_of T.KIND reads s t m h).0;
      store = λ s t m h. (held_over T.content T.part_of T.KIND reads s t m h).1;
      lent = written_over T.content T.part_of T.KIND reads;
    }
