use Rattle.std.proofs.Common.{◌≡◌, map, filter, true}
use Rattle.std.specs.Prelude.{IfSome}
use Rattle.std.specs.List.{list_all, range_with_len}
use Rattle.cover_problem.specs.Problem.{names_item}
use Rattle.case_reasons.specs.Cases.{is_case}
use Rattle.case_reasons.proofs.finding.cases_of.Given as goal

abbrev pub invariant-loop-option : goal.invariant-loop-option
invariant-loop-option g l = record {
  each : map (λ case. case.option) l.list.items ≡ filter (λ option. names_item l.problem option l.item) (range_with_len 0 l.option);
  hold : list_all (is_case l.problem) l.list.items ≡ true;
  known : IfSome l.known (λ case. is_case l.problem case ≡ true);
}
