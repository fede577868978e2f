use Rattle.std.proofs.Common.{rules, ◌≡◌, None, ◌+◌, ◌∷◌, [], ◌++◌, suc, vec_len, arith}
use Rattle.std.specs.Vec.{vec_capacity}
use Rattle.udp_node.proofs.Gathering.{incarnations_later, incarnations_more}
use Rattle.udp_node.proofs.site_run.SiteRun.run_next.Goals.{in-Some, in_default}
use Rattle.udp_node.proofs.site_run.SiteRun.run_next.Goals as goal

pub invariant_of-self : goal.invariant_of-self
invariant_of-self g c =
    let self = c.args.self.now in
    let books = c.match-book.self.1.1.1.1.1.0 in
    let taken : self.link ≡ None = search rules in
    let next : self.incarnations + 1 ≡ suc self.incarnations = omega arith in
    elim c.match-book.branch [
      | in-Some w ↦
          let book = w.in-Some.book in
          let pushed : books.items ≡ self.books.items ++ book ∷ [] = search rules in
          let longer : vec_len books ≡ vec_len self.books + 1 = search rules in
          let capacity : vec_capacity books ≡ vec_capacity self.books = search rules in
          let here : book.site.node ≡ self.node = search rules in
          let at : book.site.incarnation ≡ suc self.incarnations = search rules in
          record {
            there = self.there;
            once = self.once;
            fresh = rw taken (λ some. absurd (search rules));
            own = rw (pushed, next) (incarnations_more self.node 1 (suc self.incarnations) self.books.items book self.own here at);
            few = rw longer (omega (arith, self.few));
            room = rw capacity self.room;
          }
      | in_default w ↦
          let same : books ≡ self.books = search rules in
          record {
            there = self.there;
            once = self.once;
            fresh = rw taken (λ some. absurd (search rules));
            own = rw (same, next) (incarnations_later self.node 1 (suc self.incarnations) self.books.items self.own);
            few = rw same (omega (arith, self.few));
            room = rw same self.room;
          }
    ]
