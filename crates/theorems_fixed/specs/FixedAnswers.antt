-- What it means that a contract fixes the answer. Document 01, "Fixed answers": "Every public function's contract determines the answer and the target's later
-- bytes on each input, refusals too; any pair of answers satisfying it is proved equal".
--
-- `Asked` and `Learnt` of a function are its contract: what its `requires` asks of the arguments, and what its `ensures` says of the arguments, the answer
-- and the parameters at exit. The checker makes both of the clauses in the source, and a caller's proof rests on them.
use Rattle.std.specs.Prelude.{◌≡◌}

-- K are the lifetimes of a signature; A, R and E its arguments, its answer, and its parameters at exit.
module _ {K : Type 0} {A R E : K → Type 0} (asked : (κ : K) → A κ → Type 0) (learnt : (κ : K) → A κ → R κ → E κ → Type 0) where
  -- The function takes any arguments; and what is seen of its answer and of its parameters at exit is what the definition, `by`, gives of the arguments
  pub record Answers {S : Type 0} (see : (κ : K) → R κ → E κ → S) (by : (κ : K) → A κ → S) : Type 0 where
    pub takes_any : (κ : K) (a : A κ) → asked κ a
    pub is : (κ : K) (a : A κ) (r : R κ) (e : E κ) → learnt κ a r e → see κ r e ≡ by κ a
