use Rattle.std.proofs.Common.{◌≡◌, ◌∙◌, ap, refl, sym, subst, codes, true, Some, Option, map, option_map}
use Rattle.clap.specs.Words.{App, Text, app_of, is_simple, subcommand_of, subcommand_rows_of, found_of, rows_of}
use Rattle.clap.proofs.OnLiterals.{clap_on_literals}
use Rattle.clap.proofs.WalkLemmas.{first_value-rows}
use Rattle.command_line.specs.CommandLine.{solver_app, IsAnswerFile, IsFlag, SpellsIf, SpellsOr, greatest_fuel}
use Rattle.command_line.proofs.Pairs.{met_pair}
use Rattle.command_line.proofs.words.request.Goals as goal

simple : is_simple solver_app ≡ true
unfolding clap_on_literals
simple = refl

pub returns-clause-met : goal.returns-clause-met
returns-clause-met c =
    let m = c.in-Ok-try_get_matches_from_mut.matches in
    let is : app_of c.in-Ok.command ≡ solver_app = c.in-Ok.ensures in
    let h = c.in-Ok-try_get_matches_from_mut.ensures.ok in
    let met = (h.2 (ap is_simple is ∙ simple)).1 ∙ ap (λ (a : App). subcommand_of a (map (λ w. w.now) c.args.words.now)) is in
    let f = found_of c.in-Some.inner.now in
    let pair : subcommand_rows_of m ≡ Some (c.in-Some.name.now, rows_of f) = met_pair _ _ _ c.in-Some.name.now (rows_of f) c.in-Some.ensures.name c.in-Some.ensures.rows in
    let r = c.in-Some-requested.request in
    let s = r.settings in
    let asked = c.in-Some-requested.ensures.some in
    let given = asked.settings in
    let Answered : Option Text → Type 0 = λ given. IsAnswerFile s.mode (option_map (λ a. a.now) s.answer) given in
    record {
      name = c.in-Some.name.now;
      rows = rows_of f;
      subcommand = sym met ∙ pair;
      spelled = record {
        settings = record {
          mode_named = given.mode_named;
          file_given = sym (first_value-rows f (codes "file")) ∙ given.file_given;
          answer_given = subst Answered (first_value-rows f (codes "answer")) given.answer_given;
          fuel_given = subst (λ (value : Option Text). SpellsOr greatest_fuel value s.fuel) (first_value-rows f (codes "fuel")) given.fuel_given;
          fuel_fits = given.fuel_fits;
          nodes_given = subst (λ (value : Option Text). SpellsOr 4 value s.nodes) (first_value-rows f (codes "nodes")) given.nodes_given;
          seed_given = subst (λ (value : Option Text). SpellsOr 1 value s.seed) (first_value-rows f (codes "seed")) given.seed_given;
          seed_fits = given.seed_fits;
          workers_given = subst (λ (value : Option Text). SpellsOr 2 value s.workers) (first_value-rows f (codes "workers")) given.workers_given;
          turns_given = subst (λ (value : Option Text). SpellsOr 10000 value s.turns) (first_value-rows f (codes "turns")) given.turns_given;
          entries_given = subst (λ (value : Option Text). SpellsOr 1000000 value s.entries) (first_value-rows f (codes "entries")) given.entries_given;
          restarts_given = subst (λ (value : Option Text). SpellsOr 0 value s.restarts) (first_value-rows f (codes "restarts")) given.restarts_given;
          audit_given = subst (λ (value : Option Text). IsFlag value s.audit) (first_value-rows f (codes "audit")) given.audit_given;
        };
        seconds_given = subst (λ (value : Option Text). SpellsIf value r.seconds) (first_value-rows f (codes "seconds")) asked.seconds_given;
        megabytes_given = subst (λ (value : Option Text). SpellsIf value r.megabytes) (first_value-rows f (codes "megabytes")) asked.megabytes_given;
        progress_given = subst (λ (value : Option Text). IsFlag value r.progress) (first_value-rows f (codes "progress")) asked.progress_given;
        unlimited_given = subst (λ (value : Option Text). IsFlag value r.unlimited) (first_value-rows f (codes "unlimited")) asked.unlimited_given;
        threads_given = subst (λ (value : Option Text). SpellsIf value r.threads) (first_value-rows f (codes "threads")) asked.threads_given;
        reason_given = subst (λ (value : Option Text). IsFlag value r.reason) (first_value-rows f (codes "reason")) asked.reason_given;
        certificate_given = asked.certificate_given ∙ first_value-rows f (codes "certificate");
      };
    }
