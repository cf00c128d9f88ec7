-- `daterange_line::read_line`: refused, too little room, or the section stands in the target.
use Rattle.std.proofs.Common.{arith}
use Rattle.std.proofs.lemmas.Result.{err_from_is_err_and}
use Rattle.daterange_line.proofs.Values.{stands_inside}
use Rattle.daterange_line.proofs.Answers.{held, refused_read, ready, short_read, enough_read}
use Rattle.daterange_line.proofs.read_line.Goals as goal

pub returns-in_err-f : goal.returns-in_err-f
returns-in_err-f c =
    let p = err_from_is_err_and c.from_residual.result c.from_residual.ensures.1 in
    let r = refused_read c.args.line.now c.args.target.now _ _ c.find_cue.ensures c.in_err-f.was in
    record { answer = rw (p.1, p.2) r.0; bytes = r.1 }

pub overflow_add-from : goal.overflow_add-from
overflow_add-from c =
    let h = held c.args.line.now _ _ c.find_cue.ensures c.in_ok-f.was in
    omega (arith, c.well_formed, h.stands.len, h.digits.some, stands_inside _ _ _ h.stands)

pub overflow_add-end : goal.overflow_add-end
overflow_add-end c =
    let h = held c.args.line.now _ _ c.find_cue.ensures c.in_ok-f.was in
    omega (arith, c.well_formed, h.stands.len, h.digits.some, stands_inside _ _ _ h.stands)

pub overflow_sub-len : goal.overflow_sub-len
overflow_sub-len c =
    let h = held c.args.line.now _ _ c.find_cue.ensures c.in_ok-f.was in
    omega (arith, c.well_formed, h.stands.len, h.digits.some, stands_inside _ _ _ h.stands)

pub slice_bounds-decode-count : goal.slice_bounds-decode-count
slice_bounds-decode-count c =
    let h = held c.args.line.now _ _ c.find_cue.ensures c.in_ok-f.was in
    omega (arith, c.well_formed, h.stands.len, h.digits.some, stands_inside _ _ _ h.stands)

pub slice_bounds-decode-start : goal.slice_bounds-decode-start
slice_bounds-decode-start c =
    let h = held c.args.line.now _ _ c.find_cue.ensures c.in_ok-f.was in
    omega (arith, c.well_formed, h.stands.len, h.digits.some, stands_inside _ _ _ h.stands)

pub slice_bounds-decode-end : goal.slice_bounds-decode-end
slice_bounds-decode-end c =
    let h = held c.args.line.now _ _ c.find_cue.ensures c.in_ok-f.was in
    omega (arith, c.well_formed, h.stands.len, h.digits.some, stands_inside _ _ _ h.stands)

pub returns-then-target-len : goal.returns-then-target-len
returns-then-target-len c =
    let r = short_read _ _ _ (held c.args.line.now _ _ c.find_cue.ensures c.in_ok-f.was) c.if-target-len.true in
    record { answer = r.0; bytes = r.1 }

pub decode-requires : goal.decode-requires
decode-requires c = ready c.args.line.now c.args.target.now _ (held c.args.line.now _ _ c.find_cue.ensures c.in_ok-f.was) c.if-target-len.false

pub returns : goal.returns
returns c =
    let r = enough_read _ _ _ (held c.args.line.now _ _ c.find_cue.ensures c.in_ok-f.was) _ c.if-target-len.false c.decode.ensures in
    record { answer = r.0; bytes = r.1 }
