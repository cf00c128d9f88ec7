-- `relabel_upid::is_taken` meets its contract: an empty part is read as the only part of a MID, any other by itself.
use mathlib.Core.Path.{sym, ap, ◌∙◌}
use mathlib.Core.List.{List}
use Prim.Native.Nat.{ℕ}
use Rattle.upid.proofs.Walks.{empty}
use Rattle.upid.specs.Upid.{read_of}
use Rattle.relabel_upid.specs.Relabel.{taken}
use Rattle.relabel_upid.proofs.Turns.{fine_alone, fine_bytes}
use Rattle.relabel_upid.proofs.is_taken.Goals as goal

pub returns-then-bytes-eq0 : goal.returns-then-bytes-eq0
returns-then-bytes-eq0 c =
    let a = c.args in
    c.is_fine.ensures ∙ ap taken c.check_upid.ensures ∙ fine_alone a.upid_type
    ∙ ap (λ (s : List ℕ). taken (read_of a.upid_type 0 s)) (sym (empty a.bytes.now c.if-bytes-eq0.true))

pub returns : goal.returns
returns c =
    c.is_fine-2.ensures ∙ ap taken (c.check_upid-2.ensures ∙ fine_bytes c.args.upid_type c.args.bytes.now c.requires c.if-bytes-eq0.false)
