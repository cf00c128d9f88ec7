-- 01's rows k and l, and the writer's refusals 32 and 33.
use mathlib.Core.List.{[], ◌∷◌}
use mathlib.Core.Path.{◌≡◌, refl}
use Rattle.table.specs.Bits.{bits_of}
use Rattle.table.specs.Table.{number, bit, reserved, got, parse}
use Rattle.table.specs.Writing.{refused, make}
use Rattle.splice_time.specs.Time.{splice_time, not_immediate}
use Rattle.splice_time.specs.declared.SpliceTime.TheVariants.{Immediate, Unspecified, At}

pub row_k : parse splice_time (bits_of (0xff ∷ 0xff ∷ 0xff ∷ 0xff ∷ 0xff ∷ [])) 0 ≡ got (At 8589934591) 40
unfolding splice_time number bit reserved
row_k = refl

pub row_l : parse splice_time (bits_of (0x7f ∷ [])) 0 ≡ got Unspecified 8
unfolding splice_time number bit reserved
row_l = refl

pub too_wide : make splice_time (not_immediate (At 8589934592)) [] (At 8589934592) ≡ refused 32
unfolding splice_time number bit reserved
too_wide = refl

pub immediate : make splice_time (not_immediate Immediate) [] Immediate ≡ refused 33
unfolding splice_time number bit reserved
immediate = refl
