-- What is made of a section that is read, and of one that is refused.
use Prim.Native.Nat.{ℕ}
use mathlib.Core.List.{List}
use mathlib.Core.Path.{◌≡◌, sym, ◌∙◌}
use Rattle.daterange_line.specs.declared.Cue.{Cue}
use Rattle.daterange_writer.specs.Writing.{line_made}
use Rattle.bit_stores.specs.Written.{answer_of, later_of}
use Rattle.bit_stores.proofs.Writes.{refused_answer}
use Rattle.section.specs.Section.{section_of, number_of}
use Rattle.section.specs.declared.Refusal.{Refusal}
use Rattle.section.specs.declared.Section.{Section}
use Rattle.table.specs.Writing.{refused}
use Rattle.daterange.specs.Choice.{cue_for, daterange_made}
use Rattle.std.proofs.Common.{Ok, Err, Result}

module _ (section id date : List ℕ) where
  pub made_read : (x : Section) → section_of section ≡ Ok x → daterange_made section id date ≡ line_made section (cue_for x.command) id date
  unfolding daterange_made
  made_read x e = rw e

  pub made_refused : (r : Refusal) → section_of section ≡ Err r → daterange_made section id date ≡ refused (number_of (Err r))
  unfolding daterange_made
  made_refused r e = rw e

  module _ (target : List ℕ) (s : Result Section Refusal) (e : s ≡ section_of section) where
    pub refused_line : (r : Refusal) (n : ℕ) → s ≡ Err r → n ≡ number_of (Err r)
        → (Err n ≡ answer_of (daterange_made section id date) target) × (target ≡ later_of (daterange_made section id date) target)
    refused_line r n f g = refused_answer (daterange_made section id date) target n (rw g (made_refused r (sym e ∙ f)))

    pub written_line : (x : Section) (c : Cue) (w : Result ℕ ℕ) (later : List ℕ) → s ≡ Ok x → c ≡ cue_for x.command
        → w ≡ answer_of (line_made section c id date) target → later ≡ later_of (line_made section c id date) target
        → (w ≡ answer_of (daterange_made section id date) target) × (later ≡ later_of (daterange_made section id date) target)
    written_line x c w later f g a b = rw (made_read x (sym e ∙ f), ← g) (a, b)
