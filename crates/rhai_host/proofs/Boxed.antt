-- A held address owns the same resources as a box at the same types.
use Rattle.std.proofs.Common.{◌≡◌, [], refl}
use Rattle.std.proofs.lemmas.Bool.{false≢true}
use mir.Syntax.{impl, tnil, dnil}
use denote.Signature.{Slot, plain}
use Rattle.std_alloc.proofs.BoxSteps.Form.{Bx}
use Rattle.std.specs.contracts.alloc.Global as Heap
use Rattle.std.specs.contracts.impls.GlobalAllocator.TheImpl.{ghosts, dict}
use Rattle.std.proofs.alloc.Global.TheLaws as heap
use Rattle.rhai_host.specs.contracts.handle.kept.Kept as Kept
use Rattle.rhai_host.proofs.handle.kept.Kept.TheLaws as kept
use Rattle.rhai_host.specs.contracts.handle.loose.Loose as Loose
use Rattle.rhai_host.specs.contracts.handle.address.Held as Held
use Rattle.rhai_host.specs.Owned.{is_full}
use Rattle.std.specs.Prelude.{Option, None, Some}

abbrev pub E : Bx
E = record { row = Kept.the_row; laws = kept.the_row_laws; al = record { row = Heap.the_row; laws = heap.the_row_laws; g = ghosts; d = dict; drops = impl [] tnil dnil } }

abbrev pub FromLoose : Slot 0
FromLoose = plain (λ _. Loose.the_row Kept.the_row Heap.the_row ghosts)

abbrev pub FromHeld : Slot 0
FromHeld = plain (λ _. Held.the_row)

-- a full one has a value
pub content : (o : Option Kept.the_row.Denot) → is_full o → (x : Kept.the_row.Denot) × (o ≡ Some x)
content None full = absurd (false≢true full)
content (Some x) full = (x, refl)
