-- `descriptor::back::read_sub_segments`, by how many bytes are left.
use mathlib.Core.Path.{refl}
use Rattle.descriptor.proofs.Backs.{no_sub_segments, one_left, sub_segments_are}
use Rattle.descriptor.proofs.back.read_sub_segments.Goals as goal

pub returns-then-left-eq0 : goal.returns-then-left-eq0
returns-then-left-eq0 c = let a = c.args in (_, no_sub_segments a.s.now a.at _ refl c.if-left-eq0.true)

pub returns-then-left-eq1 : goal.returns-then-left-eq1
returns-then-left-eq1 c =
    let a = c.args in
    one_left a.s.now a.at _ refl c.if-left-eq0.false c.if-left-eq1.true

pub returns : goal.returns
returns c =
    let a = c.args in
    (_, sub_segments_are a.s.now a.at _ refl c.if-left-eq0.false c.if-left-eq1.false (λ j. (c.type_inv.s j).fits))
