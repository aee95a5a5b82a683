use Rattle.std.proofs.Common.{◌≡◌, ◌≤◌, ◌+◌, length, take}
use Rattle.rhai_packs.specs.Written.{ascii_of, overwritten}
use Rattle.rhai_packs.proofs.blobs.written.put_ascii.Given as goal

abbrev pub invariant-loop-byte : goal.invariant-loop-byte
invariant-loop-byte l = record {
  within : l.place ≤ l.end;
  placed : l.place ≡ l.start + length (ascii_of (take l.byte-index l.byte-items));
  same : l.bytes.items ≡ overwritten l.fn.bytes.items l.start (ascii_of (take l.byte-index l.byte-items));
}
