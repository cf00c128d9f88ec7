use Rattle.std.proofs.Common.{sym, ap}
use Rattle.board.specs.Breaks.{number_of}
use Rattle.channels.specs.Channels.{refusal_of}
use Rattle.c_board.proofs.number_of.Goals as goal

pub returns-in-NoSuchChannel : goal.returns-in-NoSuchChannel
unfolding refusal_of
returns-in-NoSuchChannel c = rw c.in-NoSuchChannel.is

pub returns-in-Board-BoardFull : goal.returns-in-Board-BoardFull
unfolding refusal_of number_of
returns-in-Board-BoardFull c = rw c.in-Board-BoardFull.is (sym (ap number_of (rw c.in-Board-BoardFull.is at c.in-Board-BoardFull.field-0-is)))

pub returns-in-Board-NotOpen : goal.returns-in-Board-NotOpen
unfolding refusal_of number_of
returns-in-Board-NotOpen c = rw c.in-Board-NotOpen.is (sym (ap number_of (rw c.in-Board-NotOpen.is at c.in-Board-NotOpen.field-0-is)))
