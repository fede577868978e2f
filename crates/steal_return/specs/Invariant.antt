-- What is true of every ledger.
use Rattle.std.specs.Prelude.{◌≡◌, ℕ, suc, ◌<◌, ◌≤◌, false, List, length}
use Rattle.std.specs.List.{AllByRecursion}
use Rattle.spawn_frame.specs.Units.{Entry}
use Rattle.steal_return.specs.Ledger.{Ledger}
use Rattle.steal_return.specs.Members.{is_out_to}
use Rattle.steal_return.specs.Steals.{is_older}
use Rattle.spawn_frame.specs.declared.site.TheConstants.{LAST_NODE}

-- no child is out to an earlier incarnation than is known
abbrev pub NoneOutrun : List ℕ → List Entry → Type 0
NoneOutrun known own = AllByRecursion (λ c. is_out_to (is_older known) c.status ≡ false) own

-- What is true of what is known: the registry's incarnation is, and those of at most sixteen nodes.
pub record IsKnown (known : List ℕ) : Type 0 where
  pub some : 0 < length known
  pub few : length known ≤ suc LAST_NODE

-- What is true of every ledger: one incarnation is known of the registry and of each node, of which the site is one, and no child
-- is out to an earlier one than is known.
pub record IsLedger (ledger : Ledger) : Type 0 where
  pub each : length ledger.known ≡ suc ledger.nodes
  pub within : ledger.site.node ≤ ledger.nodes
  pub none_outrun : NoneOutrun ledger.known ledger.own
