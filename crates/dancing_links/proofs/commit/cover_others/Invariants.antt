use Rattle.std.proofs.Common.{◌≡◌, length}
use Rattle.dancing_links.specs.Board.{HasRoomFor}
use Rattle.dancing_links.specs.Columns.{IsLinked, begin_of, end_of}
use Rattle.dancing_links.specs.Committing.{IsCommits}
use Rattle.dancing_links.specs.Covering.{others}
use Rattle.dancing_links.proofs.Choose.{IsLeft}
use Rattle.dancing_links.proofs.Others.{ahead, to_come, IsRound}
use Rattle.dancing_links.proofs.commit.cover_others.Given as goal

abbrev pub invariant-loop-other : goal.invariant-loop-other
invariant-loop-other l = record {
  linked : IsLinked l.layout l.board.links;
  kept : IsCommits l.layout l.board.commits;
  count : length l.board.keys ≡ length l.fn.board.keys;
  round : IsRound l.layout l.node l.other;
  left : IsLeft l.layout l.fn.board.links l.board.links (others l.layout l.node) (to_come l.layout l.node l.other) l.fn.board.keys l.board.keys l.fn.board.trail l.board.trail l.fn.board.commits l.board.commits;
  room_for : HasRoomFor l.layout (to_come l.layout l.node l.other) l.board;
  room : l.board.room ≡ l.fn.board.room;
}

abbrev pub decreases-loop-other : goal.decreases-loop-other
decreases-loop-other l = ahead (begin_of l.layout l.node) (end_of l.layout l.node) l.node l.other
