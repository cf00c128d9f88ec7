use Rattle.channels.specs.Channels.{refusal_of}
use Rattle.c_board.specs.Lent.{id_of, flat_reply}
use Rattle.c_board.proofs.FlatBoardAnswerFromResultU32ChannelRefusal.from.Goals as goal

pub returns-in-Ok : goal.returns-in-Ok
unfolding flat_reply id_of refusal_of
returns-in-Ok c = rw c.in-Ok.is

pub returns-in-Err : goal.returns-in-Err
unfolding flat_reply id_of
returns-in-Err c = rw (c.in-Err.is, c.number_of.ensures)
