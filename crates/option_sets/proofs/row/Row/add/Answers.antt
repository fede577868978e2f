use Rattle.std.proofs.Common.{◌≡◌, ◌-◌, ◌*◌, ◌/◌, ◌%◌, ◌^◌, ◌<◌, length, get_or, rules, arith, ◌∙◌, sym, refl, subst, ap}
use Rattle.std.proofs.lemmas.List.{get_or_read}
use Rattle.option_sets.specs.declared.word.Word.{Word}
use Rattle.option_sets.specs.Rows.{IsRowBy}
use Rattle.option_sets.proofs.Adding.{IsPast, row_push, row_join, one_some}
use Rattle.option_sets.proofs.row.Row.add.Goals as goal
use Rattle.option_sets.proofs.row.Row.add.Goals.{else-count-gt0-via-then-count-gt0+else-index-place, else-count-gt0-via-else-count-gt0}

pub returns-then-index-place-clause-ok : goal.returns-then-index-place-clause-ok
returns-then-index-place-clause-ok c n has near by =
    let row = c.self.inside.words.items in
    let count : c.len-count.result ≡ length c.self.inside.words.items = search rules in
    let inside : c.len-count.result - 1 < length c.self.inside.words.items = omega (arith, count, c.if-count-gt0.true) in
    let none : Word = record { place = 0; bits = 0 } in
    let same : c.index_mut.result.now ≡ c.index.result.now =
    get_or_read c.self.inside.words.items (c.len-count.result - 1) c.index_mut.result.now inside c.index_mut.ensures.value none
    ∙ sym (get_or_read c.self.inside.words.items (c.len-count.result - 1) c.index.result.now inside c.index.ensures none) in
    row_join n c.args.option has c.self.inside.words.items near (subst (IsRowBy n has) (sym c.self.view_is) by) c.index_mut.result.now c.len-count.result count c.if-count-gt0.true c.index_mut.ensures.value
    (ap (λ (w : Word). w.place) same ∙ c.if-index-place.true)

pub returns-clause-ok : goal.returns-clause-ok
returns-clause-ok c n has near by =
    let count : c.len-count.result ≡ length c.self.inside.words.items = search rules in
    let none : Word = record { place = 0; bits = 0 } in
    let past : IsPast c.args.option c.self.inside.words.items = λ some same.
    elim c.else-count-gt0.branch [
      | else-count-gt0-via-then-count-gt0+else-index-place w ↦
          let read : w.index.result.now ≡ get_or c.self.inside.words.items (length c.self.inside.words.items - 1) none =
          get_or_read c.self.inside.words.items (c.len-count.result - 1) w.index.result.now (omega (arith, count, some)) w.index.ensures none
          ∙ ap (λ n. get_or c.self.inside.words.items (n - 1) none) count in
          w.if-index-place.false (ap (λ (v : Word). v.place) read ∙ same)
      | else-count-gt0-via-else-count-gt0 w ↦ omega (arith, count, some, w.if-count-gt0.false)
    ] in
    rw c.in_ok-push.ensures.items
    (row_push n c.args.option has c.self.inside.words.items near (subst (IsRowBy n has) (sym c.self.view_is) by) (c.args.option / 64) (1 * 2 ^ (c.args.option % 64) % 2 ^ 64) refl refl (one_some c.args.option) past)
