use Rattle.std.proofs.Common.{List, insert, map, sym, ap, subst, ◌∙◌}
use Rattle.std.specs.List.{position_or_len}
use Rattle.spawn_frame.specs.Names.{guest_before}
use Rattle.spawn_frame.specs.Tables.{new_guest, IsAscending}
use Rattle.spawn_frame.specs.Units.{guest_in, insert_guest, table_guests}
use Rattle.spawn_frame.specs.Works.{IsTable, fresh_guest, guest_entry, table_of}
use Rattle.spawn_frame.specs.declared.guest.Guest.{Guest}
use Rattle.spawn_frame.proofs.Admitted.{put_is, put_kept, put_view}
use Rattle.spawn_frame.proofs.table.Table.admit.Goals as goal

pub invariant_of-self-2 : goal.invariant_of-self-2
invariant_of-self-2 c =
    let t = c.self.inside in
    let new = fresh_guest c.args.name c.args.attempt c.args.prefix in
    let place = c.place_behind-place.ensures.place ∙ ap (λ (gs : List Guest). position_or_len (λ g. guest_before c.args.name c.args.attempt g.name g.work.attempt) gs) c.as_slice.ensures in
    let put = c.in_ok-insert.ensures.ok ∙ (λ i. insert t.guests (place i) (c.new_guest-guest.ensures i)) ∙ put_is new t.guests in
    subst (λ guests. IsTable (table_of t.site t.names_limit t.own guests) t.own guests) (sym put)
    (put_kept t.site t.names_limit t.own t.guests c.self.invariant c.args.name c.args.attempt c.args.prefix
    (ap (λ v. guest_in v.guests c.args.name c.args.attempt) c.self.view_is ∙ c.requires.absent) c.requires.attempt)

pub returns-clause-ok : goal.returns-clause-ok
returns-clause-ok c =
    let t = c.self.inside in
    let new = fresh_guest c.args.name c.args.attempt c.args.prefix in
    let place = c.place_behind-place.ensures.place ∙ ap (λ (gs : List Guest). position_or_len (λ g. guest_before c.args.name c.args.attempt g.name g.work.attempt) gs) c.as_slice.ensures in
    let put = c.in_ok-insert.ensures.ok ∙ (λ i. insert t.guests (place i) (c.new_guest-guest.ensures i)) ∙ put_is new t.guests in
    ap (λ guests. table_of t.site t.names_limit t.own guests) put
    ∙ ap (table_guests (table_of t.site t.names_limit t.own t.guests)) (put_view new t.guests)
    ∙ ap (λ v. table_guests v (insert_guest (new_guest c.args.name c.args.attempt c.args.prefix) v.guests)) c.self.view_is

pub place_behind-place-requires : goal.place_behind-place-requires
place_behind-place-requires c =
    subst (λ (gs : List Guest). IsAscending (map guest_entry gs)) (sym c.as_slice.ensures) c.self.invariant.ascending
