-- What a worker has in hand.
use Rattle.std.specs.Prelude.{◌≡◌, true, ⊤}
use Rattle.cover_problem.specs.Prefix.{is_prefix}
use Rattle.cover_problem.specs.Problem.{Problem}
use Rattle.node_core.specs.Results.{IsRight}
use Rattle.node_core.specs.declared.event.Event.{Event}
use Rattle.node_core.specs.declared.event.Event.TheVariants.{Post}

-- of a Post: its finding is right, and is of a prefix
abbrev pub IsPosted : Problem → Event → Type 0
IsPosted problem (Post job finding) = IsRight problem finding × (is_prefix problem finding.prefix ≡ true)
IsPosted problem _ = ⊤
