use Rattle.rhai_lines.proofs.Prints.{Appends-more, Appends-last}
use Rattle.rhai_lines.proofs.print.write_fault.Goals as goal

pub returns-in_ok-write_all-in-ErrorMismatchDataType-3 :
    goal.returns-in_ok-write_all-in-ErrorMismatchDataType-3
returns-in_ok-write_all-in-ErrorMismatchDataType-3 g c =
    rw (c.in-ErrorMismatchDataType.is, ← c.as_str.ensures, ← c.as_bytes.ensures.value, ← c.as_str-in-ErrorMismatchDataType.ensures, ← c.as_bytes-in-ErrorMismatchDataType.ensures.value) (Appends-last c.write_all-in-ErrorMismatchDataType-3.result _ _ _ _ _ (Appends-more _ _ _ _ _ (Appends-more _ _ _ _ _ c.in_ok-write_all-in-ErrorMismatchDataType.ensures.bytes c.in_ok-write_all-in-ErrorMismatchDataType-2.ensures.bytes) c.in_ok-write_all-in-ErrorMismatchDataType-3.ensures.bytes) c.write_all-in-ErrorMismatchDataType-3.ensures.bytes)

pub returns-in_ok-write_all-in-ErrorArithmetic : goal.returns-in_ok-write_all-in-ErrorArithmetic
returns-in_ok-write_all-in-ErrorArithmetic g c =
    rw c.in-ErrorArithmetic.is (Appends-last c.write_arithmetic.result _ _ _ _ _ c.in_ok-write_all-in-ErrorArithmetic.ensures.bytes c.write_arithmetic.ensures)

pub returns-in_ok-write_all-in-ErrorDataTooLarge :
    goal.returns-in_ok-write_all-in-ErrorDataTooLarge
returns-in_ok-write_all-in-ErrorDataTooLarge g c =
    rw c.in-ErrorDataTooLarge.is (Appends-last c.write_size.result _ _ _ _ _ c.in_ok-write_all-in-ErrorDataTooLarge.ensures.bytes c.write_size.ensures)

pub returns-in-ErrorMemory : goal.returns-in-ErrorMemory
returns-in-ErrorMemory g c = rw c.in-ErrorMemory.is c.write_all-in-ErrorMemory.ensures.bytes
