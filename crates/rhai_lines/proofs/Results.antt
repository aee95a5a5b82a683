-- A fact that holds anyway holds at an `Ok` or an `Err`.
use Rattle.std.proofs.Common.{Result, Ok, Err, OnOk, OnErr}

pub OnOk-always : {T E P : Type 0} (r : Result T E) → P → OnOk r P
OnOk-always (Ok x) p = p
OnOk-always (Err e) p = tt

pub OnErr-always : {T E P : Type 0} (r : Result T E) → P → OnErr r P
OnErr-always (Ok x) p = tt
OnErr-always (Err e) p = p
