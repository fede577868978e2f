use Rattle.std.proofs.Common.{rules, ◌≡◌, true, suc, ◌++◌, ◌∷◌, [], length, arith, refl}
use Rattle.std.proofs.lemmas.List.{length_push}
use Rattle.std.specs.Vec.Iter.{into_iter_items}
use Rattle.udp_node.specs.Incarnations.{are_incarnations}
use Rattle.udp_node.proofs.Gathering.{NumberedFrom, before_next_node, gathered_all, numbered_from}
use Rattle.udp_node.proofs.run.gathered.Goals as goal

pub loop-site-init : goal.loop-site-init
loop-site-init g c =
    let items : into_iter_items c.into_iter-site-iterator.result ≡ c.args.runs.items = search rules in
    record {
      rest = rw items (numbered_from (λ site. site.node) c.args.runs.items c.requires.numbered);
      gathered = rw c.requires.none (record { before = tt; distinct = refl });
      books = rw c.requires.none (λ k d h. absurd (omega (arith, h)));
    }

pub loop-site-preserved : goal.loop-site-preserved
loop-site-preserved g c =
    let i = c.loop-site.invariant in
    let site = c.in-Some.site in
    let here = length c.loop-site.yielded in
    let books = c.loop-site.books.items in
    let own = c.into_end-own.result.0.items in
    let first : into_iter_items c.loop-site.site-iterator ≡ site ∷ into_iter_items c.next.new.self = search rules in
    let rest : NumberedFrom (λ site. site.node) here (site ∷ into_iter_items c.next.new.self) = rw first at i.rest in
    let next : length (c.loop-site.yielded ++ site ∷ []) ≡ suc here = omega (arith, length_push c.loop-site.yielded site) in
    let more = c.in_ok-books.ensures in
    let incarnations : are_incarnations here 1 (suc site.incarnations) own ≡ true = rw rest.0 at c.into_end-own.ensures in
    let all = gathered_all here 1 (suc site.incarnations) books own i.gathered incarnations in
    record {
      rest = rw next rest.1;
      gathered = rw (next, more.more) (record {
        before = before_next_node here (suc site.incarnations) 1 (books ++ own) all.before;
        distinct = all.distinct;
      });
      books = more.books;
    }
