-- Packets one after the other: the sections given are those of the concatenations between gaps.
use Prim.Native.Nat.{ℕ}
use mathlib.Core.Bool.{Bool, true, false}
use mathlib.Core.List.{List, [], ◌∷◌, ◌++◌, append_assoc}
use mathlib.Core.Path.{◌≡◌, refl, ap, sym, ◌∙◌}
use lib.Dec.{eqb}
use lib.ListN.{length, drop}
use borrow.Author.Tests.{eqb-true, eqb-false}
use Rattle.std.specs.Prelude.{Some, None, Ok, Err}
use Rattle.table.specs.Bits.{pick}
use Rattle.transport_packet.specs.declared.packet.Refusal.{Refusal}
use Rattle.transport_packet.specs.declared.packet.Refusal.TheVariants.{SectionLengthTooLarge}
use Rattle.transport_packet.specs.Packet.{Head, head_of}
use Rattle.transport_packet.specs.Sections.{Cut}
use Rattle.transport.specs.Step.{State, fresh, Told, follows, cut_of, before, tells_of, step_of, Settled}
use Rattle.transport.specs.Step.Told.{refused, took}
use Rattle.transport_laws.specs.Concatenation.{Load, load_of, payloads, unrepeated, Runs, Spans, spans_of, spans, spanned, runs_of, sections_from, sections_of, concatenation, concatenated}
use Rattle.transport_laws.specs.Runs.{given, accepted, Unrefused, Clean}
use Rattle.transport_laws.specs.Runs.Unrefused.{ends, goes}
use Rattle.table.proofs.Lists.{append_nil}
use Rattle.transport.specs.Step.Settled.{none, going}
use Rattle.transport.proofs.Settles.{of_settled}
use Rattle.transport_laws.proofs.Joined.{finish, load_goes, load_starts}

-- the section under way finished, and the sections of the runs behind it
unfoldable pub what_is_left : List ℕ → List Load → List (List ℕ)
what_is_left under xs = finish under (runs_of xs).lead ++ sections_of (runs_of xs).runs

never_refused : (r : Refusal) (s : State) (xs : List (List ℕ)) → refused r ≡ took s xs → ⊥
never_refused r s xs e = cc

-- a payload in front
pub load_left : (under : List ℕ) (x : Load) (xs : List Load) → (cut_of under x.lead x.from).long ≡ false
    → (cut_of under x.lead x.from).sections ++ what_is_left (cut_of under x.lead x.from).under xs ≡ what_is_left under (x ∷ xs)
unfolding what_is_left runs_of sections_of
load_left under x xs l = go (eqb (length x.from) 0) refl
  where
    c : Cut
    c = cut_of under x.lead x.from

    r : Runs
    r = runs_of xs

    regroup : c.sections ++ what_is_left c.under xs ≡ c.sections ++ finish c.under r.lead ++ sections_of r.runs
    regroup = sym (append_assoc c.sections (finish c.under r.lead) (sections_of r.runs))

    go : (f : Bool) → eqb (length x.from) 0 ≡ f → c.sections ++ what_is_left c.under xs ≡ what_is_left under (x ∷ xs)
    go true f = regroup ∙ rw (f, load_goes under x.lead x.from r.lead l (eqb-true _ _ f))
    go false f =
        regroup
        ∙ rw (f, load_starts under x.lead x.from r.lead l (eqb-false _ _ f))
        (append_assoc (finish under x.lead) (sections_from (length x.from) x.from r.lead) (sections_of r.runs))

-- ---- what is left of a list of payloads: of the span that goes on, and of those behind it

unfoldable pub left : List ℕ → Spans → List (List ℕ)
left under r = what_is_left under r.first ++ spanned r.others

nothing_left : (under : List ℕ) → Settled under → what_is_left under [] ≡ []
unfolding what_is_left runs_of sections_of
nothing_left [] none = refl
nothing_left under (going e) = go (eqb (length under) 0) refl
  where
    go : (f : Bool) → eqb (length under) 0 ≡ f → finish under [] ++ [] ≡ []
    go true f = rw f
    go false f = rw (f, append_nil under, e)

pub none_under : (xs : List Load) → what_is_left [] xs ≡ concatenation xs
unfolding what_is_left
none_under xs = refl

-- the payload's counter follows
follows_left : (under : List ℕ) (last : ℕ) (x : Load) (xs : List Load) → follows last x.counter ≡ true → (cut_of under x.lead x.from).long ≡ false
    → (cut_of under x.lead x.from).sections ++ left (cut_of under x.lead x.from).under (spans_of x.counter xs) ≡ left under (spans_of last (x ∷ xs))
unfolding left spans_of
follows_left under last x xs w l =
    let c = cut_of under x.lead x.from in
    let r = spans_of x.counter xs in
    rw w
    (sym (append_assoc c.sections (what_is_left c.under r.first) (spanned r.others))
    ∙ ap (λ (y : List (List ℕ)). y ++ spanned r.others) (load_left under x r.first l))

-- a gap: what was under way is dropped, and the payload begins a span
gap_left : (under : List ℕ) (last : ℕ) (x : Load) (xs : List Load) → Settled under → follows last x.counter ≡ false → (cut_of [] x.lead x.from).long ≡ false
    → (cut_of [] x.lead x.from).sections ++ left (cut_of [] x.lead x.from).under (spans_of x.counter xs) ≡ left under (spans_of last (x ∷ xs))
unfolding left spans_of spanned
gap_left under last x xs k w l =
    let c = cut_of [] x.lead x.from in
    let r = spans_of x.counter xs in
    rw (w, nothing_left under k)
    (sym (append_assoc c.sections (what_is_left c.under r.first) (spanned r.others))
    ∙ ap (λ (y : List (List ℕ)). y ++ spanned r.others) (load_left [] x r.first l ∙ none_under (x ∷ r.first)))

-- ---- one packet

module _ (pid : ℕ) (p : List ℕ) (s later : State) (sections : List (List ℕ)) (k : Settled s.under) where
  -- what a packet that is taken does: nothing, or it adds a payload
  pub data Takes : Type 0 where
    stays : s ≡ later → sections ≡ [] → ((xs : List Load) → unrepeated s.counter (load_of p (head_of pid p) ++ xs) ≡ unrepeated s.counter xs) → Takes
    adds :
        (x : Load) (c : Cut) → c ≡ cut_of (pick (follows s.counter x.counter) s.under []) x.lead x.from → c.long ≡ false
        → record { counter = x.counter; under = c.under } ≡ later → sections ≡ c.sections
        → ((xs : List Load) → unrepeated s.counter (load_of p (head_of pid p) ++ xs) ≡ x ∷ unrepeated x.counter xs) → Takes

  pub takes : step_of pid s p ≡ took later sections → Takes
  unfolding tells_of unrepeated
  takes e = by_head (head_of pid p) refl
    where
      by_head : (h : Head) → head_of pid p ≡ h → Takes
      by_head (Err r) h = absurd (never_refused r later sections (rw h at e))
      by_head (Ok None) h = let q : took s [] ≡ took later sections = rw h at e in stays (cc) (cc) (λ xs. rw h)
      by_head (Ok (Some x)) h = by_repeat (eqb x.counter s.counter) refl (cut_of (pick (follows s.counter x.counter) s.under []) (before p x.at x.first) (drop x.first p)).long refl
        where
          by_repeat : (f : Bool) → eqb x.counter s.counter ≡ f → (l : Bool) → (cut_of (pick (follows s.counter x.counter) s.under []) (before p x.at x.first) (drop x.first p)).long ≡ l → Takes
          by_repeat true f l g = let q : took s [] ≡ took later sections = rw (h, f) at e in stays (cc) (cc) (λ xs. rw (h, f))
          by_repeat false f true g = absurd (never_refused SectionLengthTooLarge later sections (rw (h, f, g) at e))
          by_repeat false f false g =
              let c = cut_of (pick (follows s.counter x.counter) s.under []) (before p x.at x.first) (drop x.first p) in
              let q : took (record { counter = x.counter; under = c.under }) c.sections ≡ took later sections = rw (h, f, g) at e in
              adds (record { counter = x.counter; lead = before p x.at x.first; from = drop x.first p }) c refl g (cc) (cc) (λ xs. rw (h, f))

  pub step_settles : step_of pid s p ≡ took later sections → Settled later.under
  step_settles e = go (takes e)
    where
      go : Takes → Settled later.under
      go (stays a b u) = rw (← a) k
      go (adds x c q l a b u) = rw (← a, q) (of_settled (pick (follows s.counter x.counter) s.under []) x.lead x.from)

  pub step_left : step_of pid s p ≡ took later sections → (xs : List Load)
      → sections ++ left later.under (spans_of later.counter (unrepeated later.counter xs))
      ≡ left s.under (spans_of s.counter (unrepeated s.counter (load_of p (head_of pid p) ++ xs)))
  step_left e xs = go (takes e)
    where
      go : Takes
          → sections ++ left later.under (spans_of later.counter (unrepeated later.counter xs))
          ≡ left s.under (spans_of s.counter (unrepeated s.counter (load_of p (head_of pid p) ++ xs)))
      go (stays a b u) = rw (b, ← a, u xs)
      go (adds x c q l a b u) = rw (b, ← a, u xs) (by_gap (follows s.counter x.counter) refl)
        where
          by_gap : (f : Bool) → follows s.counter x.counter ≡ f
              → c.sections ++ left c.under (spans_of x.counter (unrepeated x.counter xs)) ≡ left s.under (spans_of s.counter (x ∷ unrepeated x.counter xs))
          by_gap true f =
              let d : c ≡ cut_of s.under x.lead x.from = rw f at q in
              rw d (follows_left s.under s.counter x (unrepeated x.counter xs) f (rw d at l))
          by_gap false f =
              let d : c ≡ cut_of [] x.lead x.from = rw f at q in
              rw d (gap_left s.under s.counter x (unrepeated x.counter xs) k f (rw d at l))

-- ---- a list of packets

pub given_left : (pid : ℕ) (ps : List (List ℕ)) (s : State) → Settled s.under → Unrefused pid s ps
    → given pid s ps ≡ left s.under (spans_of s.counter (unrepeated s.counter (payloads pid ps)))
unfolding given payloads unrepeated spans_of left spanned
given_left pid [] s k ends = sym (ap (λ (y : List (List ℕ)). y ++ []) (nothing_left s.under k))
given_left pid (p ∷ ps) s k (goes {later = later} {sections = sections} e c) =
    rw e
    (ap (λ (y : List (List ℕ)). sections ++ y) (given_left pid ps later (step_settles pid p s later sections k e) c)
    ∙ step_left pid p s later sections k e (payloads pid ps))

pub given_spanned : (pid : ℕ) (ps : List (List ℕ)) → Unrefused pid fresh ps → given pid fresh ps ≡ concatenation (spans pid ps).first ++ spanned (spans pid ps).others
unfolding left
given_spanned pid ps c = given_left pid ps fresh none c ∙ ap (λ (y : List (List ℕ)). y ++ spanned (spans pid ps).others) (none_under (spans pid ps).first)

-- without a gap there is one span
one_span : (last : ℕ) (xs : List Load) → (spans_of last xs).others ≡ [] → (spans_of last xs).first ≡ xs
unfolding spans_of
one_span last [] e = refl
one_span last (x ∷ xs) e = go (one_span x.counter xs) (follows last x.counter) refl
  where
    go : ((spans_of x.counter xs).others ≡ [] → (spans_of x.counter xs).first ≡ xs) → (f : Bool) → follows last x.counter ≡ f → (spans_of last (x ∷ xs)).first ≡ x ∷ xs
    go more true f = rw f (ap (λ (y : List Load). x ∷ y) (more (rw f at e)))
    go more false f =
        let q : (x ∷ (spans_of x.counter xs).first) ∷ (spans_of x.counter xs).others ≡ [] = rw f at e in
        absurd cc

pub given_concatenated : (pid : ℕ) (ps : List (List ℕ)) → Clean pid ps → given pid fresh ps ≡ concatenated pid ps
unfolding spanned
given_concatenated pid ps c =
    given_spanned pid ps c.unrefused
    ∙ rw (c.no_gap, one_span 16 (unrepeated 16 (payloads pid ps)) c.no_gap) (append_nil (concatenated pid ps))

-- ---- any packets: those that are refused might as well not be there

pub accepted_unrefused : (pid : ℕ) (ps : List (List ℕ)) (s : State) → Unrefused pid s (accepted pid s ps)
unfolding accepted
accepted_unrefused pid [] s = ends
accepted_unrefused pid (p ∷ ps) s = go (accepted_unrefused pid ps) (step_of pid s p) refl
  where
    go : ((t : State) → Unrefused pid t (accepted pid t ps)) → (x : Told) → step_of pid s p ≡ x → Unrefused pid s (accepted pid s (p ∷ ps))
    go more (refused r) e = rw e (more s)
    go more (took later sections) e = rw e (goes e (more later))

pub given_accepted : (pid : ℕ) (ps : List (List ℕ)) (s : State) → given pid s ps ≡ given pid s (accepted pid s ps)
unfolding given accepted
given_accepted pid [] s = refl
given_accepted pid (p ∷ ps) s = go (given_accepted pid ps) (step_of pid s p) refl
  where
    go : ((t : State) → given pid t ps ≡ given pid t (accepted pid t ps)) → (x : Told) → step_of pid s p ≡ x → given pid s (p ∷ ps) ≡ given pid s (accepted pid s (p ∷ ps))
    go more (refused r) e = rw e (more s)
    go more (took later sections) e = rw (e, e) (ap (λ (y : List (List ℕ)). sections ++ y) (more later))
