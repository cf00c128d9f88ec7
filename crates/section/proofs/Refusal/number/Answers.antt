-- `section::Refusal::number`: a row of `number_of` each.
use Rattle.section.specs.Section.{number_of}
use Rattle.section.proofs.Refusal.number.Goals as goal

pub returns-in-SectionTooShort : goal.returns-in-SectionTooShort
unfolding number_of
returns-in-SectionTooShort c = rw c.in-SectionTooShort.is

pub returns-in-InputTooLong : goal.returns-in-InputTooLong
unfolding number_of
returns-in-InputTooLong c = rw c.in-InputTooLong.is

pub returns-in-OtherTable : goal.returns-in-OtherTable
unfolding number_of
returns-in-OtherTable c = rw c.in-OtherTable.is

pub returns-in-WrongCrc : goal.returns-in-WrongCrc
unfolding number_of
returns-in-WrongCrc c = rw c.in-WrongCrc.is

pub returns-in-NoHeader : goal.returns-in-NoHeader
unfolding number_of
returns-in-NoHeader c = rw c.in-NoHeader.is

pub returns-in-Encrypted : goal.returns-in-Encrypted
unfolding number_of
returns-in-Encrypted c = rw c.in-Encrypted.is

pub returns-in-CommandTooLong : goal.returns-in-CommandTooLong
unfolding number_of
returns-in-CommandTooLong c = rw c.in-CommandTooLong.is

pub returns-in-NoLoopLength : goal.returns-in-NoLoopLength
unfolding number_of
returns-in-NoLoopLength c = rw c.in-NoLoopLength.is

pub returns-in-LoopTooLong : goal.returns-in-LoopTooLong
unfolding number_of
returns-in-LoopTooLong c = rw c.in-LoopTooLong.is

pub returns-in-UnknownCommand : goal.returns-in-UnknownCommand
unfolding number_of
returns-in-UnknownCommand c = rw c.in-UnknownCommand.is

pub returns-in-MalformedCommand : goal.returns-in-MalformedCommand
unfolding number_of
returns-in-MalformedCommand c = rw c.in-MalformedCommand.is
