-- A thief gets the product's choice.
use Rattle.std.proofs.Common.{◌≡◌, ℕ, true, false, List, [], ◌∷◌, map, get_or, refl, sym, ap, subst, ◌∙◌, inl, inr, true≢false}
use Rattle.node_core.specs.Acting.{GivesShareTo}
use Rattle.node_core.specs.Arrivals.{StealStep, answer_packet}
use Rattle.node_core.specs.SiteView.{View, with_ledger}
use Rattle.packet_wire.specs.Gifts.{gifts_in, is_gift}
use Rattle.packet_wire.specs.declared.packet.Body.{Body}
use Rattle.packet_wire.specs.declared.packet.Body.TheVariants.{NoWork}
use Rattle.packet_wire.specs.declared.packet.Packet.{Packet}
use Rattle.spawn_frame.specs.Gifts.{serials_of}
use Rattle.spawn_frame.specs.declared.site.Site.{Site}
use Rattle.steal_return.proofs.Each.{serials_at}
use Rattle.steal_return.specs.Ledger.{Ledger}
use Rattle.steal_return.specs.Shares.{MayShare, gifts_of, is_spelled}
use Rattle.steal_return.specs.Steals.{GivesChildren, GivesNothing, gift_at}
use Rattle.steal_return.specs.declared.given.Given.{Given}

same_body : (old : View) (from : Site) (a b : Body) → answer_packet old from a ≡ answer_packet old from b → a ≡ b
same_body old from a b e = let d : Packet = record { from = from; to = from; body = a } in ap (λ (ps : List Packet). (get_or {A = Packet} ps 0 d).body) e

pub gets_nothing : (old : View) (from : Site) → GivesNothing old.ledger from → StealStep old from (answer_packet old from NoWork) old × GivesShareTo old from (answer_packet old from NoWork)
gets_nothing old from none =
    (inl (record { because = none; after = refl; sends = refl }), λ body is e. absurd (true≢false (sym is ∙ ap is_gift (sym (same_body old from NoWork body e)))))

pub gets_share : (old : View) (from : Site) (serials : List ℕ) (given : Given) (body : Body) (new : Ledger) → MayShare old.ledger from serials
    → gifts_of given ≡ map (gift_at old.own) serials → is_spelled given ≡ true → gifts_in body ≡ gifts_of given → is_gift body ≡ is_spelled given
    → GivesChildren old.ledger from (map (gift_at old.own) serials) new
    → StealStep old from (answer_packet old from body) (with_ledger old new) × GivesShareTo old from (answer_packet old from body)
gets_share old from serials given body new may gifts spelled in_body is_body gives =
    let whole : gifts_in body ≡ map (gift_at old.own) serials = in_body ∙ gifts in (
      inr (record {
        body = body;
        spelled = is_body ∙ spelled;
        ledger = new;
        gives = subst (λ gs. GivesChildren old.ledger from gs new) (sym whole) gives;
        after = refl;
        sends = refl;
      }),
      λ other is e.
          ap (λ c. serials_of (gifts_in c)) (sym (same_body old from body other e)) ∙ ap serials_of whole ∙ serials_at old.own serials ∙ may.chosen_so,
    )

-- the same of what the code has in hand
pub steal_told : (old seen : View) (from site : Site) (serials handed out : List ℕ) (given : Given) (body : Body) (packet : Packet) (ledger : Ledger) → seen ≡ old → site ≡ old.site
    → packet ≡ record { from = site; to = from; body = body } → MayShare seen.ledger from serials → handed ≡ serials → out ≡ serials
    → gifts_of given ≡ map (gift_at seen.own) handed → is_spelled given ≡ true → gifts_in body ≡ gifts_of given → is_gift body ≡ is_spelled given
    → GivesChildren seen.ledger from (map (gift_at seen.own) out) ledger
    → StealStep old from (packet ∷ []) (with_ledger seen ledger) × GivesShareTo old from (packet ∷ [])
steal_told old seen from site serials handed out given body packet ledger same is told may first second gifts spelled in_body is_body gives =
    let Told : View → List Packet → Type 0 = λ v ps. StealStep v from ps (with_ledger seen ledger) × GivesShareTo v from ps in
    let here : site ≡ seen.site = is ∙ sym (ap (λ (v : View). v.site) same) in
    let sent : packet ∷ [] ≡ answer_packet seen from body = ap (λ p. p ∷ []) told ∙ (λ i. record { from = here i; to = from; body = body } ∷ []) in
    subst (λ v. Told v (packet ∷ [])) same
    (subst (Told seen) (sym sent)
    (gets_share seen from serials given body ledger may (gifts ∙ ap (map (gift_at seen.own)) first) spelled in_body is_body
    (subst (λ ns. GivesChildren seen.ledger from (map (gift_at seen.own) ns) ledger) second gives)))
