-- `adjust_section::adjust_section`, return by return.
use Prim.Native.Nat.{◌+◌, ◌%◌}
use mathlib.Core.Path.{◌≡◌, sym, ◌∙◌, ap}
use native.Mathlib.Omega.{arith}
use Rattle.bit_stores.proofs.Writes.{refused_answer, short_answer}
use Rattle.section.proofs.Acceptance.{number_some}
use Rattle.section.specs.Section.{section_of, number_of}
use Rattle.table.proofs.Reading.{field_lt}
use Rattle.adjust_section.specs.Adjusted.{adjustment_in, adjusted_section}
use Rattle.adjust_section.proofs.Parts.{length_section}
use Rattle.adjust_section.proofs.Stored.{is_refused, is_wide, is_made, sizes, wrote_section}
use Rattle.adjust_section.proofs.adjust_section.Goals as goal

pub returns-in-Err : goal.returns-in-Err
returns-in-Err c =
    let a = c.args in
    let some : c.number.result ≡ 0 → ⊥ = λ z. number_some _ (sym c.number.ensures ∙ z) in record { answer = (refused_answer (adjusted_section a.section.now a.adjustment) a.target.now _ (is_refused a.section.now a.adjustment _ (c.number.ensures ∙ ap number_of (sym c.in-Err.is ∙ c.read_section.ensures)) (omega (arith, some)))).0; bytes = (refused_answer (adjusted_section a.section.now a.adjustment) a.target.now _ (is_refused a.section.now a.adjustment _ (c.number.ensures ∙ ap number_of (sym c.in-Err.is ∙ c.read_section.ensures)) (omega (arith, some)))).1 }

pub returns-then-adjustment-gt8589934591 : goal.returns-then-adjustment-gt8589934591
unfolding number_of
returns-then-adjustment-gt8589934591 c =
    let none : number_of (section_of c.args.section.now) ≡ 0 = ap number_of (sym c.read_section.ensures ∙ c.in-Ok.is) in
    let a = c.args in record { answer = (refused_answer (adjusted_section a.section.now a.adjustment) a.target.now 32 (is_wide a.section.now a.adjustment none (omega arith))).0; bytes = (refused_answer (adjusted_section a.section.now a.adjustment) a.target.now 32 (is_wide a.section.now a.adjustment none (omega arith))).1 }

pub returns-then-target-section : goal.returns-then-target-section
unfolding number_of
returns-then-target-section c =
    let none : number_of (section_of c.args.section.now) ≡ 0 = ap number_of (sym c.read_section.ensures ∙ c.in-Ok.is) in
    let a = c.args in
    let e : number_of (section_of a.section.now) ≡ 0 = none in record { answer = (short_answer (adjusted_section a.section.now a.adjustment) a.target.now _ (is_made a.section.now a.adjustment e (omega arith)) (omega (arith, length_section ((adjustment_in a.section.now + a.adjustment) % 8589934592) a.section.now (sizes a.section.now e).0))).0; bytes = (short_answer (adjusted_section a.section.now a.adjustment) a.target.now _ (is_made a.section.now a.adjustment e (omega arith)) (omega (arith, length_section ((adjustment_in a.section.now + a.adjustment) % 8589934592) a.section.now (sizes a.section.now e).0))).1 }

pub overflow_add-time33 : goal.overflow_add-time33
overflow_add-time33 c =
    let a = c.args in
    omega (arith, c.time33.ensures, field_lt a.section.now 39 33)

pub put_section-requires : goal.put_section-requires
unfolding number_of
put_section-requires c =
    let none : number_of (section_of c.args.section.now) ≡ 0 = ap number_of (sym c.read_section.ensures ∙ c.in-Ok.is) in
    let a = c.args in
    let e : number_of (section_of a.section.now) ≡ 0 = none in
    let z = sizes a.section.now e in
    (omega arith, z.0, z.1, omega arith)

pub returns : goal.returns
unfolding number_of
returns c =
    let none : number_of (section_of c.args.section.now) ≡ 0 = ap number_of (sym c.read_section.ensures ∙ c.in-Ok.is) in
    let a = c.args in record { answer = (wrote_section a.section.now a.target.now _ a.adjustment _ none (omega arith) (omega arith) c.time33.ensures c.put_section.ensures).0; bytes = (wrote_section a.section.now a.target.now _ a.adjustment _ none (omega arith) (omega arith) c.time33.ensures c.put_section.ensures).1 }
