-- `descriptor_measure::segment::refusal_of_active`, refusal by refusal.
use mathlib.Core.Path.{◌≡◌}
use native.Mathlib.Omega.{arith}
use lib.ListN.{length, take}
use borrow.Author.Rules.{rules}
use Rattle.descriptor.specs.Segmentation.{count_of}
use Rattle.descriptor_measure.proofs.Refusals.{view_out, upid_long, numbers_over, with_identifier, unwritable_active, unwritable_upid, no_refusal, refused_all, refused_fit}
use Rattle.descriptor_measure.proofs.Tests.{numbers_with}
use Rattle.descriptor_measure.proofs.segment.refusal_of_active.Goals as goal

pub returns-then-not-lies_in : goal.returns-then-not-lies_in
returns-then-not-lies_in c =
    let a = c.args in
    refused_all _ _ _ _ _ (λ cs. view_out a.event a.i a.identifier cs a.eidr a.lent.now _ c.lies_in.ensures c.if-not-lies_in.true-raw)

pub returns-then-bytes-gt-MAX_UPID : goal.returns-then-bytes-gt-MAX_UPID
returns-then-bytes-gt-MAX_UPID c =
    let a = c.args in
    refused_all _ _ _ _ _ (λ cs. upid_long a.event a.i a.identifier cs a.eidr a.lent.now _ c.lies_in.ensures c.if-not-lies_in.false-raw c.if-bytes-gt-MAX_UPID.true)

pub returns-then-not-numbers_fit : goal.returns-then-not-numbers_fit
returns-then-not-numbers_fit c =
    let a = c.args in
    refused_fit _ _ _ _ _ c.numbers_fit.ensures.1 (λ cs many fits. numbers_over a.event a.i a.identifier cs a.eidr a.lent.now _ c.lies_in.ensures c.if-not-lies_in.false-raw c.if-bytes-gt-MAX_UPID.false many ((let it : length c.args.eidr ≡ 12 = search rules in it)) (omega (arith, c)) (omega (arith, c)) _ (numbers_with a.i (take (count_of a.i.segmentation_mode) cs) _ fits c.numbers_fit.ensures) c.if-not-numbers_fit.true-raw)

pub returns-then-not-is_zero : goal.returns-then-not-is_zero
returns-then-not-is_zero c =
    let a = c.args in
    refused_fit _ _ _ _ _ c.numbers_fit.ensures.1 (λ cs many fits. with_identifier a.event a.i a.identifier cs a.eidr a.lent.now _ c.lies_in.ensures c.if-not-lies_in.false-raw c.if-bytes-gt-MAX_UPID.false many ((let it : length c.args.eidr ≡ 12 = search rules in it)) (omega (arith, c)) (omega (arith, c)) _ (numbers_with a.i (take (count_of a.i.segmentation_mode) cs) _ fits c.numbers_fit.ensures) c.if-not-numbers_fit.false-raw _ c.is_zero.ensures c.if-not-is_zero.true-raw)

pub returns-then-not-is_writable_active : goal.returns-then-not-is_writable_active
returns-then-not-is_writable_active c =
    let a = c.args in
    refused_fit _ _ _ _ _ c.numbers_fit.ensures.1 (λ cs many fits. unwritable_active a.event a.i a.identifier cs a.eidr a.lent.now _ c.lies_in.ensures c.if-not-lies_in.false-raw c.if-bytes-gt-MAX_UPID.false many ((let it : length c.args.eidr ≡ 12 = search rules in it)) (omega (arith, c)) (omega (arith, c)) _ (numbers_with a.i (take (count_of a.i.segmentation_mode) cs) _ fits c.numbers_fit.ensures) c.if-not-numbers_fit.false-raw _ c.is_zero.ensures c.if-not-is_zero.false-raw _ c.is_writable_active.ensures c.if-not-is_writable_active.true-raw)

pub returns-then-not-is_writable_upid : goal.returns-then-not-is_writable_upid
returns-then-not-is_writable_upid c =
    let a = c.args in
    refused_fit _ _ _ _ _ c.numbers_fit.ensures.1 (λ cs many fits. unwritable_upid a.event a.i a.identifier cs a.eidr a.lent.now _ c.lies_in.ensures c.if-not-lies_in.false-raw c.if-bytes-gt-MAX_UPID.false many ((let it : length c.args.eidr ≡ 12 = search rules in it)) (omega (arith, c)) (omega (arith, c)) _ (numbers_with a.i (take (count_of a.i.segmentation_mode) cs) _ fits c.numbers_fit.ensures) c.if-not-numbers_fit.false-raw _ c.is_zero.ensures c.if-not-is_zero.false-raw _ c.is_writable_active.ensures c.if-not-is_writable_active.false-raw _ c.is_writable_upid.ensures c.if-not-is_writable_upid.true-raw)

pub returns : goal.returns
returns c =
    let a = c.args in
    refused_fit _ _ _ _ _ c.numbers_fit.ensures.1 (λ cs many fits. no_refusal a.event a.i a.identifier cs a.eidr a.lent.now _ c.lies_in.ensures c.if-not-lies_in.false-raw c.if-bytes-gt-MAX_UPID.false many ((let it : length c.args.eidr ≡ 12 = search rules in it)) (omega (arith, c)) (omega (arith, c)) _ (numbers_with a.i (take (count_of a.i.segmentation_mode) cs) _ fits c.numbers_fit.ensures) c.if-not-numbers_fit.false-raw _ c.is_zero.ensures c.if-not-is_zero.false-raw _ c.is_writable_active.ensures c.if-not-is_writable_active.false-raw _ c.is_writable_upid.ensures c.if-not-is_writable_upid.false-raw)
