use Rattle.std.proofs.Common.{arith}
use Rattle.worked.proofs.Rows.{small_charts}
use Rattle.bench.specs.declared.rows.Row.TheVariants.{Empty, LateText, LateTextTaken, LateRing, LateSound, Cross, OverFree, OverInLine, OverRoomForOne, OverRoomForTwo, HopNoRoom, PollDriven, HopAfterHop, HopBesideHop, ToItself}
use Rattle.bench.proofs.Each.{comes_out, after_latest, after_sound, beside_latest, beside_sound, cross_stuck, empty_runs, empty_sound, hop_no_room, over_in_line, over_room_for_one, over_room_for_two, over_runs, poll_driven, poll_sound, to_itself_runs, to_itself_sound}
use Rattle.bench.proofs.rows.Row.outcome.Goals as goal

pub returns-in-Empty : goal.returns-in-Empty
returns-in-Empty c = comes_out _ Empty _ c.in-Empty.is empty_sound tt empty_runs

pub returns-in-LateText : goal.returns-in-LateText
returns-in-LateText c = comes_out _ LateText _ c.in-LateText.is small_charts.late_sound (omega arith, omega arith) small_charts.late_text

pub returns-in-LateTextTaken : goal.returns-in-LateTextTaken
returns-in-LateTextTaken c = comes_out _ LateTextTaken _ c.in-LateTextTaken.is small_charts.late_sound (omega arith, omega arith) small_charts.late_text_taken

pub returns-in-LateRing : goal.returns-in-LateRing
returns-in-LateRing c = comes_out _ LateRing _ c.in-LateRing.is small_charts.late_sound (omega arith, omega arith) small_charts.late_ring

pub returns-in-LateSound : goal.returns-in-LateSound
returns-in-LateSound c = comes_out _ LateSound _ c.in-LateSound.is small_charts.late_sound (omega arith, omega arith) small_charts.late_sounds

pub returns-in-Cross : goal.returns-in-Cross
returns-in-Cross c = comes_out _ Cross _ c.in-Cross.is small_charts.cross_sound tt cross_stuck

pub returns-in-OverFree : goal.returns-in-OverFree
returns-in-OverFree c = comes_out _ OverFree _ c.in-OverFree.is small_charts.over_sound tt over_runs

pub returns-in-OverInLine : goal.returns-in-OverInLine
returns-in-OverInLine c = comes_out _ OverInLine _ c.in-OverInLine.is small_charts.over_sound tt over_in_line

pub returns-in-OverRoomForOne : goal.returns-in-OverRoomForOne
returns-in-OverRoomForOne c = comes_out _ OverRoomForOne _ c.in-OverRoomForOne.is small_charts.over_sound tt over_room_for_one

pub returns-in-OverRoomForTwo : goal.returns-in-OverRoomForTwo
returns-in-OverRoomForTwo c = comes_out _ OverRoomForTwo _ c.in-OverRoomForTwo.is small_charts.over_sound tt over_room_for_two

pub returns-in-HopNoRoom : goal.returns-in-HopNoRoom
returns-in-HopNoRoom c = comes_out _ HopNoRoom _ c.in-HopNoRoom.is small_charts.hop_sound tt hop_no_room

pub returns-in-PollDriven : goal.returns-in-PollDriven
returns-in-PollDriven c = comes_out _ PollDriven _ c.in-PollDriven.is poll_sound tt poll_driven

pub returns-in-HopAfterHop : goal.returns-in-HopAfterHop
returns-in-HopAfterHop c = comes_out _ HopAfterHop _ c.in-HopAfterHop.is after_sound (omega arith, omega arith) after_latest

pub returns-in-HopBesideHop : goal.returns-in-HopBesideHop
returns-in-HopBesideHop c = comes_out _ HopBesideHop _ c.in-HopBesideHop.is beside_sound (omega arith, omega arith) beside_latest

pub returns-in-ToItself : goal.returns-in-ToItself
returns-in-ToItself c = comes_out _ ToItself _ c.in-ToItself.is to_itself_sound tt to_itself_runs
