-- What a writer asks of an insert's components in one pass. No public contract cites this.
use Rattle.std.specs.Prelude.{ℕ, ◌+◌, ◌*◌, ◌^◌, Bool, true, not, ◌&&◌, List, [], ◌∷◌, ltb, eqb, Some, None, Option}
use Rattle.command.specs.Insert as insert
use Rattle.splice_time.specs.Break.{break_ticks}
use Rattle.command.specs.Insert.{immediate, program_time}
use Rattle.command.specs.declared.components.InsertComponent.{InsertComponent}
use Rattle.command.specs.declared.insert.SpliceMode.{SpliceMode}
use Rattle.splice_time.specs.Time.{specified, ticks}
use Rattle.splice_time.specs.declared.SpliceTime.{SpliceTime}
use Rattle.table.specs.Bits.{pick}
use Rattle.command_measure.specs.declared.measure.Survey.{Survey}
use Rattle.command_measure.specs.declared.Measured.{Measured}
use Rattle.splice_time.specs.declared.break_duration.SpliceDuration.{SpliceDuration}

-- the bytes of a time, none where the insert is immediate
abbrev pub time_bytes : Bool → SpliceTime → ℕ
time_bytes b t = pick b 0 (pick (specified t) 5 1)

-- with one component more before them: whether the times fit their fields, whether all are immediate or all timed as b says, and how many bytes they take
unfoldable pub adding : Bool → SpliceTime → Survey → Survey
adding b t s = record {
  fits = ltb (ticks t) (2 ^ 33) && s.fits;
  alike = pick b (immediate t) (not (immediate t)) && s.alike;
  bytes = 1 + time_bytes b t + s.bytes;
}

unfoldable pub surveyed : Bool → List InsertComponent → Survey
surveyed b [] = record { fits = true; alike = true; bytes = 0 }
surveyed b (c ∷ cs) = adding b c.splice_time (surveyed b cs)

-- of components that are all blank, as many as the mode says: their times are unspecified
unfoldable pub blanks_of : SpliceMode → Survey
blanks_of k = record { fits = true; alike = true; bytes = insert.count k * 2 }

-- ---- of a whole insert, what its components' survey says being s
abbrev pub mode_bytes : SpliceMode → ℕ → ℕ
mode_bytes (SpliceMode.Program t) n = time_bytes (immediate t) t
mode_bytes (SpliceMode.Components k) n = 1 + n

abbrev pub break_bytes : Option SpliceDuration → ℕ
break_bytes None = 0
break_bytes (Some d) = 5

-- by what 32 asks, by what 33 asks, and the size
abbrev pub measured : Bool → Bool → ℕ → Measured
measured fits writable size =
    pick fits
    (pick writable (record { refusal = 0; size = size })
    (record { refusal = 33; size = 0 }))
    (record { refusal = 32; size = 0 })

abbrev pub cancel_measured : ℕ → Measured
cancel_measured reserved = measured (ltb reserved 128) (eqb reserved 127) 5

unfoldable pub active_measured : ℕ → SpliceMode → Option SpliceDuration → Survey → Measured
active_measured reserved mode duration s =
    measured (s.fits && (ltb reserved 128 && (ltb (ticks (program_time mode)) (2 ^ 33) && ltb (break_ticks duration) (2 ^ 33)))) (eqb reserved 127 && s.alike)
    (10 + mode_bytes mode s.bytes + break_bytes duration)
