use Rattle.std.proofs.Common.{◌+◌, ◌≤◌, length, take}
use Rattle.option_sets.specs.Tints.{AreNumbers, Extends}
use Rattle.option_sets.proofs.tints.tints_of_option.Given as goal

abbrev pub invariant-loop-place : goal.invariant-loop-place
invariant-loop-place l = record {
  numbers : AreNumbers l.numbering (take l.place l.items) (take l.place l.colours) l.numbers.items;
  more : Extends l.fn.numbering l.numbering;
  few : length l.numbering ≤ length l.fn.numbering + l.place;
}
