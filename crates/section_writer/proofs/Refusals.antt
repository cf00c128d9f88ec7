-- The refusals of a section, 31 to 35, one after the other as the writer comes to them.
use Prim.Native.Nat.{ℕ, ◌<◌, ◌≤◌}
use mathlib.Core.Bool.{Bool, true, false}
use mathlib.Core.Path.{◌≡◌}
use borrow.Author.Tests.{lt-ltb, le-ltb, ne_eqb}
use Rattle.header.specs.declared.header.SpliceInfoHeader.{SpliceInfoHeader}
use Rattle.section.specs.Section.{first, section_length}
use Rattle.section_writer.specs.Frame.{numbers_fit, writable_head}
use Rattle.section_writer.specs.Writing.{writer_conditions}

module _ (h : SpliceInfoHeader) (r size extent : ℕ) (canonical : Bool) where
  pub outside : r ≡ 31 → 31 ≡ first 31 (writer_conditions h r size extent canonical)
  outside e = rw e

  pub command_wide : r ≡ 32 → 32 ≡ first 31 (writer_conditions h r size extent canonical)
  command_wide e = rw e

  module _ (seen : r ≡ 31 → ⊥) (within : r ≡ 32 → ⊥) where
    pub header_wide : false ≡ numbers_fit h → 32 ≡ first 31 (writer_conditions h r size extent canonical)
    header_wide e = rw (ne_eqb r 31 seen, ne_eqb r 32 within, ← e)

    module _ (fits : true ≡ numbers_fit h) where
      pub command_unwritable : r ≡ 33 → 33 ≡ first 31 (writer_conditions h r size extent canonical)
      command_unwritable e = rw (ne_eqb r 31 seen, ne_eqb r 32 within, ← fits, e)

      module _ (kept : r ≡ 33 → ⊥) where
        pub header_unwritable : false ≡ writable_head h → 33 ≡ first 31 (writer_conditions h r size extent canonical)
        header_unwritable e = rw (ne_eqb r 31 seen, ne_eqb r 32 within, ← fits, ne_eqb r 33 kept, ← e)

        module _ (writable : true ≡ writable_head h) where
          pub too_long : 4096 < section_length size extent → 34 ≡ first 31 (writer_conditions h r size extent canonical)
          too_long l = rw (ne_eqb r 31 seen, ne_eqb r 32 within, ← fits, ne_eqb r 33 kept, ← writable, lt-ltb 4096 (section_length size extent) l)

          module _ (short : section_length size extent ≤ 4096) where
            pub uncanonical : canonical ≡ false → 35 ≡ first 31 (writer_conditions h r size extent canonical)
            uncanonical e = rw (ne_eqb r 31 seen, ne_eqb r 32 within, ← fits, ne_eqb r 33 kept, ← writable, le-ltb 4096 (section_length size extent) short, e)

            pub no_refusal : canonical ≡ true → 0 ≡ first 31 (writer_conditions h r size extent canonical)
            no_refusal e = rw (ne_eqb r 31 seen, ne_eqb r 32 within, ← fits, ne_eqb r 33 kept, ← writable, le-ltb 4096 (section_length size extent) short, e)
