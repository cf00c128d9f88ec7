-- The survey of an insert's components.
use Prim.Native.Nat.{ℕ, zero, suc, ◌+◌, ◌*◌, ◌^◌, ◌<◌, ◌≤◌}
use mathlib.Core.Bool.{Bool, true, false, not, ◌&&◌}
use mathlib.Core.List.{List, [], ◌∷◌}
use mathlib.Core.Path.{◌≡◌, refl, ap, sym, ◌∙◌}
use native.Mathlib.Omega.{arith}
use lib.Dec.{ltb}
use lib.ListN.{length, take, drop, get_or, replicate}
use lib.Seq.{drop-cons}
use Rattle.command.specs.Command.{Tags}
use Rattle.command.specs.Writable.{alike}
use Rattle.command.specs.Insert.{immediate, blank}
use Rattle.command.specs.declared.components.InsertComponent.{InsertComponent}
use Rattle.splice_time.specs.Time.{ticks}
use Rattle.splice_time.specs.declared.SpliceTime.{SpliceTime}
use Rattle.splice_time.specs.declared.SpliceTime.TheVariants.{Immediate, Unspecified, At}
use Rattle.table.specs.Bits.{pick}
use Rattle.command_measure.specs.Made.{times_fit}
use Rattle.command_measure.specs.Survey.{time_bytes, adding, surveyed}
use Rattle.command_measure.specs.declared.measure.Survey.{Survey}

-- one component more
pub added : (b : Bool) (t : SpliceTime) (s : Survey) (f g : Bool) (n : ℕ) → f ≡ ltb (ticks t) (2 ^ 33) && s.fits → g ≡ pick b (immediate t) (not (immediate t)) && s.alike → n ≡ time_bytes b t
    → record { fits = f; alike = g; bytes = 1 + n + s.bytes } ≡ adding b t s
unfolding adding
added b t s f g n e h k = rw (e, h, k)

pub surveyed_nil : (b : Bool) → record { fits = true; alike = true; bytes = 0 } ≡ surveyed b []
unfolding surveyed
surveyed_nil b = refl

-- blank components: two bytes each
pub survey_blanks : (n m : ℕ) → n ≤ m → (record { fits = true; alike = true; bytes = n * 2 } ≡ surveyed false (take n (replicate m blank))) × Tags (take n (replicate m blank))
unfolding surveyed adding
survey_blanks zero m h = (refl, tt)
survey_blanks (suc n) zero h = absurd (omega arith)
survey_blanks (suc n) (suc m) h =
    let r = survey_blanks n m (omega arith) in
    let z : suc n * 2 ≡ 1 + 1 + n * 2 = omega arith in
    let y : record { fits = true; alike = true; bytes = suc n * 2 } ≡ adding false blank.splice_time (record { fits = true; alike = true; bytes = n * 2 }) =
    ap (λ (k : ℕ). record { fits = true; alike = true; bytes = k }) z in
    (y ∙ ap (adding false blank.splice_time) r.0, (omega arith, r.1))

pub surveyed_at : (b : Bool) (cs : List InsertComponent) (i : ℕ) (d : InsertComponent) → i < length cs → adding b (get_or cs i d).splice_time (surveyed b (drop (suc i) cs)) ≡ surveyed b (drop i cs)
unfolding surveyed
surveyed_at b cs i d h = sym (ap (surveyed b) (drop-cons cs i d h))

pub tags_at : (cs : List InsertComponent) (i : ℕ) (d : InsertComponent) → i < length cs → (get_or cs i d).component_tag < 256 → Tags (drop (suc i) cs) → Tags (drop i cs)
tags_at cs i d h t k = rw (drop-cons cs i d h) (t, k)

bytes_most : (b : Bool) (t : SpliceTime) → time_bytes b t ≤ 5
bytes_most true t = omega arith
bytes_most false Immediate = omega arith
bytes_most false Unspecified = omega arith
bytes_most false (At t) = omega arith

pub survey_bytes : (b : Bool) (cs : List InsertComponent) → (surveyed b cs).bytes ≤ length cs * 6
unfolding surveyed adding
survey_bytes b [] = omega arith
survey_bytes b (c ∷ cs) = omega (arith, survey_bytes b cs, bytes_most b c.splice_time)

pub survey_fits : (b : Bool) (cs : List InsertComponent) → (surveyed b cs).fits ≡ times_fit cs
unfolding surveyed adding
survey_fits b [] = refl
survey_fits b (c ∷ cs) = ap (λ (f : Bool). ltb (ticks c.splice_time) (2 ^ 33) && f) (survey_fits b cs)

pub survey_alike : (b : Bool) (cs : List InsertComponent) → (surveyed b cs).alike ≡ alike b cs
unfolding surveyed adding
survey_alike b [] = refl
survey_alike b (c ∷ cs) = ap (λ (f : Bool). pick b (immediate c.splice_time) (not (immediate c.splice_time)) && f) (survey_alike b cs)
