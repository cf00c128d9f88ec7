-- The flat forms of a time that was moved and of an adjustment.
use Rattle.std.specs.Prelude.{ℕ, Ok, Err, Result}
use Rattle.c_section.specs.declared.headers.FlatAdjusted.{FlatAdjusted}
use Rattle.splice_time.specs.declared.SpliceTime.TheVariants.{Immediate, Unspecified, At}
use Rattle.c_adjust.specs.declared.FlatAdjustment.{FlatAdjustment}
use Rattle.splice_time.specs.declared.TooLarge.{TooLarge}
use Rattle.splice_time.specs.declared.SpliceTime.{SpliceTime}

-- a time of the kind that was handed in: one that is not specified stays so; or refusal 32
unfoldable pub flat_moved : ℕ → Result SpliceTime TooLarge → FlatAdjusted
flat_moved kind (Ok Immediate) = record { refusal = 0; kind = kind; ticks = 0 }
flat_moved kind (Ok Unspecified) = record { refusal = 0; kind = kind; ticks = 0 }
flat_moved kind (Ok (At t)) = record { refusal = 0; kind = 3; ticks = t }
flat_moved kind (Err e) = record { refusal = 32; kind = 0; ticks = 0 }

-- an adjustment, or refusal 32
unfoldable pub flat_adjustment : Result ℕ TooLarge → FlatAdjustment
flat_adjustment (Ok a) = record { refusal = 0; adjustment = a }
flat_adjustment (Err e) = record { refusal = 32; adjustment = 0 }
