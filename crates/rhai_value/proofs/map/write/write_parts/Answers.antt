use Rattle.std.proofs.Common.{refl}
use Rattle.rhai_value.proofs.KeptKeys.{parts_scanned, whole_scanned}
use Rattle.rhai_value.proofs.map.write.write_parts.Goals as goal

pub returns-clause-written : goal.returns-clause-written
returns-clause-written g c =
    let q = record c.args.parts.now { first = c.write_entries.new.entries; rest = c.write_chunks.new.rest } in
    parts_scanned g.W.ValueWriter.writes c.args.writer.now c.write_entries.new.writer c.write_chunks.new.writer c.args.parts.now q c.write_entries.ensures c.write_chunks.ensures

pub returns-clause-whole : goal.returns-clause-whole
returns-clause-whole g c =
    let q = record c.args.parts.now { first = c.write_entries.new.entries; rest = c.write_chunks.new.rest } in
    whole_scanned g.W.ValueWriter.writes c.args.writer.now c.write_entries.new.writer c.write_chunks.new.writer c.args.parts.now q c.write_entries.ensures c.write_chunks.ensures refl c.requires
