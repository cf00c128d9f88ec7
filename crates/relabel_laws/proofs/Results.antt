-- What is made by `relabel_made`, taken apart.
use Prim.Native.Nat.{ℕ, ◌+◌, ◌≤◌, ◌<◌}
use mathlib.Core.Bool.{Bool, true, false, ◌&&◌}
use mathlib.Core.List.{List}
use mathlib.Core.Path.{◌≡◌, refl, ap₂, sym, subst, ◌∙◌}
use native.Mathlib.Omega.{arith}
use borrow.Author.Tests.{leb-true}
use lib.Dec.{leb, eqb}
use lib.ListN.{length, get_or}
use Rattle.descriptor_loop.specs.Items.{listed, items_of}
use Rattle.relabel.proofs.Cuts.{loop_there}
use Rattle.relabel.proofs.Mades.{framing}
use Rattle.relabel.specs.Relabel.{payload_in, payload_then, section_then, fitting, loop_made, relabel_made}
use Rattle.relabel_found.proofs.Actives.{ActiveAt, active_at_lem, begun, hole_at, byte_in, fore_in_lem, type_in_lem, upid_in_lem, post_in_lem, size_all}
use Rattle.relabel_found.proofs.Walks.{Among, among}
use Rattle.relabel_found.specs.Found.{found, type_in, upid_in}
use Rattle.relabel_joined.proofs.Theorems.{everything_else_stays}
use Rattle.relabel_payload.specs.Payload.{Holed}
use Rattle.relabel_upid.specs.Relabel.{upid_made}
use Rattle.section.specs.Section.{command_length, loop_length, loop_bytes, section_of, number_of}
use Rattle.section.specs.declared.Refusal.{Refusal}
use Rattle.section.specs.declared.Section.{Section}
use Rattle.table.proofs.Lists.{zero_one, and_true}
use Rattle.table.specs.Bits.{pick}
use Rattle.table.specs.Writing.{Made, made, refused}
use Rattle.relabel_laws.specs.Result.{Result}
use Rattle.std.specs.declared.result.Result as answer
use Rattle.std.proofs.Common.{Ok, Err}

-- ---- a pick that made something

pub picked : (t : Bool) (m : Made) (n : ℕ) (r : List ℕ) → pick t m (refused n) ≡ made r → (t ≡ true) × (m ≡ made r)
picked true m n r e = (refl, e)
picked false m n r e = zero_one cc

pub accepted_of : (a : answer.Result Section Refusal) → eqb (number_of a) 0 ≡ true → (x : Section) × (a ≡ Ok x)
unfolding number_of
accepted_of (Ok x) e = (x, refl)
accepted_of (Err Refusal.SectionTooShort) e = zero_one cc
accepted_of (Err Refusal.InputTooLong) e = zero_one cc
accepted_of (Err Refusal.OtherTable) e = zero_one cc
accepted_of (Err Refusal.WrongCrc) e = zero_one cc
accepted_of (Err Refusal.NoHeader) e = zero_one cc
accepted_of (Err Refusal.Encrypted) e = zero_one cc
accepted_of (Err Refusal.CommandTooLong) e = zero_one cc
accepted_of (Err Refusal.NoLoopLength) e = zero_one cc
accepted_of (Err Refusal.LoopTooLong) e = zero_one cc
accepted_of (Err Refusal.UnknownCommand) e = zero_one cc
accepted_of (Err Refusal.MalformedCommand) e = zero_one cc

module _ (s : List ℕ) (offset part k : ℕ) (new r : List ℕ) where
  pub record Fitted (m : Made) : Type 0 where
    pub b : List ℕ
    pub was : m ≡ made b
    pub is : r ≡ section_then s offset part k b
    pub short : length (payload_then s offset part k b) ≤ 250
    pub fits : length (section_then s offset part k b) ≤ 4096

  fitted : (m : Made) → fitting s offset part k m ≡ made r → Fitted m
  unfolding fitting
  fitted (refused n) e = zero_one cc
  fitted (made b) e =
      let p = picked (leb (length (payload_then s offset part k b)) 250 && leb (length (section_then s offset part k b)) 4096) (made (section_then s offset part k b)) 34 r e in
      let t = and_true (leb (length (payload_then s offset part k b)) 250) (leb (length (section_then s offset part k b)) 4096) p.0 in
      let z : section_then s offset part k b ≡ r = cc p.1 in
      record { b = b; was = refl; is = sym z; short = leb-true _ _ t.0; fits = leb-true _ _ t.1 }

  module _ (bytes : (j : ℕ) → get_or s j 0 < 256) (byte : k < 256) where
    abbrev pay : List ℕ
    pay = payload_in s offset

    pub result : relabel_made s offset part k new ≡ made r → Result s offset part k new r
    unfolding relabel_made loop_made
    result e =
        let p₁ = picked (eqb (number_of (section_of s)) 0) (loop_made s offset part k new) (number_of (section_of s)) r e in
        let x = accepted_of (section_of s) p₁.0 in
        let fr = framing s x.0 x.1 in
        let p₂ = picked (found (loop_bytes s) offset) (fitting s offset part k (upid_made (type_in pay) (upid_in pay) part k new)) 41 r p₁.1 in
        let f = fitted (upid_made (type_in pay) (upid_in pay) part k new) p₂.1 in
        let loop_is_lem = loop_there s fr.fits in
        let loop_byte : (j : ℕ) → get_or (loop_bytes s) j 0 < 256 = λ j. subst (λ (l : List ℕ). get_or l j 0 < 256) (sym loop_is_lem) (byte_in s (16 + command_length s) (loop_length s) bytes j) in
        let i = active_at_lem (loop_bytes s) offset p₂.0 in
        let h = hole_at (loop_bytes s) offset loop_byte i in
        let short_loop : length (loop_bytes s) ≤ 4076 = i.stands.fits in
        let a = among (loop_bytes s) offset short_loop (begun (loop_bytes s) offset p₂.0) in
        of_hole x.0 x.1 p₂.0 f i h a
      where
        of_hole : (old : Section) → section_of s ≡ Ok old → found (loop_bytes s) offset ≡ true → (f : Fitted (upid_made (type_in pay) (upid_in pay) part k new)) (i : ActiveAt (loop_bytes s) offset)
            → (h : Holed pay i.x.segmentation_event_id i.i) → Among (items_of (loop_bytes s)) (listed (loop_bytes s) offset) → Result s offset part k new r
        of_hole old ea ef f i h a =
            let ef₁ = fore_in_lem pay _ _ h in
            let ep = post_in_lem pay _ _ h in
            let ek = type_in_lem pay _ _ h in
            let eu = upid_in_lem pay _ _ h in
            let was : upid_made h.upid_type h.bytes part k new ≡ made f.b = ap₂ (λ (c : ℕ) (u : List ℕ). upid_made c u part k new) ek eu ∙ f.was in
            let kept = everything_else_stays s old a.lead (listed (loop_bytes s) offset) a.tail i.x.segmentation_event_id i.i pay h part k new f.b ea a.is byte was
            (rw (ef₁, ep, ek) f.short) (rw (ef₁, ep, ek) f.fits) in
            record {
              old = old;
              accepted = ea;
              lead = a.lead;
              tail = a.tail;
              items = a.is;
              there = ef;
              event = i.x.segmentation_event_id;
              active = i.i;
              cut = h.is ∙ cc (ef₁, ep, ek, eu);
              complete = omega (arith, size_all pay _ _ h);
              upid = f.b;
              made_of = f.was;
              is = f.is;
              short = f.short;
              kept = rw (ef₁, ep, ek) at kept;
            }
