-- The registry is formed when it begins.
use Rattle.std.proofs.Common.{◌≡◌, ◌≢◌, ℕ, zero, suc, ◌≤◌, Some, slice_get, refl, ap, ◌∙◌, arith, ◌∷◌, []}
use Rattle.std.proofs.lemmas.Option.{none-some, same_Some}
use Rattle.cover_problem.specs.Problem.{IsProblem, Problem}
use Rattle.node_core.proofs.Knowing.{first_known}
use Rattle.node_core.specs.SiteView.{opening_view}
use Rattle.root_registry.specs.Formed.{IsFormedRegistry}
use Rattle.spawn_frame.specs.Tables.{HasParents, root_entry, root_table}
use Rattle.spawn_frame.specs.Units.{Entry}
use Rattle.spawn_frame.specs.declared.unit.Unit.{Unit as WorkUnit}
use Rattle.steal_return.specs.Ledger.{root_ledger}

no_parent : (k : ℕ) (c : Entry) (unit : WorkUnit) → slice_get (root_entry ∷ []) k ≡ Some c → c.parent ≢ Some unit
no_parent zero c unit at is = none-some unit (ap (λ (x : Entry). x.parent) (same_Some root_entry c at) ∙ is)
no_parent (suc k) c unit at is = none-some c at

root_parents : HasParents root_table
root_parents = record {
  lower = λ k j c at is. absurd (no_parent k c _ at is);
  there = λ k c unit at is. absurd (no_parent k c unit at is);
}

pub registry_begins : (problem : Problem) (nodes : ℕ) → IsProblem problem → 1 ≤ nodes → nodes ≤ 16 → IsFormedRegistry problem (opening_view (root_ledger nodes))
registry_begins problem nodes p some most = record {
  formed = record {
    lawful = p;
    some = some;
    most = most;
    within = omega arith;
    known = first_known nodes;
    units = record {
      site = refl;
      small = omega arith;
      names = omega arith;
      parents = root_parents;
      ascending = tt;
      own = (record { told = record { prefix = refl; attempt = refl }; status = refl }, tt);
      guests = tt;
    };
  };
  registry = refl;
  root = refl;
  no_guests = refl;
}
