use Rattle.std.proofs.Common.{rules, ap, sym, ◌∙◌}
use Rattle.rhai_target.specs.Target.{mark_in, value_in, with_value, put_marked}
use Rattle.rhai_target.proofs.MarkedTexts.{mark_outlasts}
use Rattle.rhai_target.proofs.target.Target.with_mut.Goals as goal

pub returns-in-RefMut : goal.returns-in-RefMut
returns-in-RefMut g c =
    let m = c.args.store.now in
    let w = c.f.new.arg2 in
    (c.in-RefMut.r.now, w, ap (value_in m) c.in-RefMut.is, search rules, ap (with_value w) (sym c.in-RefMut.is), ap (λ t. put_marked (mark_in t) w m) (sym c.in-RefMut.is), tt)

pub returns-in-SharedValue : goal.returns-in-SharedValue
returns-in-SharedValue g c =
    let m = c.args.store.now in
    let w = c.f-in-SharedValue.new.arg2 in
    (c.through_mut.result.now, w, ap (value_in m) c.in-SharedValue.is ∙ c.through_mut.ensures.value, search rules, ap (with_value w) (sym c.in-SharedValue.is), ap (λ t. put_marked (mark_in t) w m) (sym c.in-SharedValue.is), mark_outlasts m c.in-SharedValue.token w (search rules))

pub returns-in-TempValue : goal.returns-in-TempValue
returns-in-TempValue g c =
    let m = c.args.store.now in
    let w = c.f-in-TempValue.new.arg2 in
    (c.in-TempValue.value, w, ap (value_in m) c.in-TempValue.is, search rules, ap (with_value w) (sym c.in-TempValue.is), ap (λ t. put_marked (mark_in t) w m) (sym c.in-TempValue.is), tt)

pub returns-in-Bit : goal.returns-in-Bit
returns-in-Bit g c =
    let m = c.args.store.now in
    let w = c.f-in-Bit.new.arg2 in
    (c.in-Bit.value, w, ap (value_in m) c.in-Bit.is, search rules, ap (with_value w) (sym c.in-Bit.is), ap (λ t. put_marked (mark_in t) w m) (sym c.in-Bit.is), tt)

pub returns-in-BitField : goal.returns-in-BitField
returns-in-BitField g c =
    let m = c.args.store.now in
    let w = c.f-in-BitField.new.arg2 in
    (c.in-BitField.value, w, ap (value_in m) c.in-BitField.is, search rules, ap (with_value w) (sym c.in-BitField.is), ap (λ t. put_marked (mark_in t) w m) (sym c.in-BitField.is), tt)

pub returns-in-BlobByte : goal.returns-in-BlobByte
returns-in-BlobByte g c =
    let m = c.args.store.now in
    let w = c.f-in-BlobByte.new.arg2 in
    (c.in-BlobByte.value, w, ap (value_in m) c.in-BlobByte.is, search rules, ap (with_value w) (sym c.in-BlobByte.is), ap (λ t. put_marked (mark_in t) w m) (sym c.in-BlobByte.is), tt)

pub returns-in-StringChar : goal.returns-in-StringChar
returns-in-StringChar g c =
    let m = c.args.store.now in
    let w = c.f-in-StringChar.new.arg2 in
    (c.in-StringChar.value, w, ap (value_in m) c.in-StringChar.is, search rules, ap (with_value w) (sym c.in-StringChar.is), ap (λ t. put_marked (mark_in t) w m) (sym c.in-StringChar.is), tt)

pub returns-in-StringSlice : goal.returns-in-StringSlice
returns-in-StringSlice g c =
    let m = c.args.store.now in
    let w = c.f-in-StringSlice.new.arg2 in
    (c.in-StringSlice.value, w, ap (value_in m) c.in-StringSlice.is, search rules, ap (with_value w) (sym c.in-StringSlice.is), ap (λ t. put_marked (mark_in t) w m) (sym c.in-StringSlice.is), tt)
