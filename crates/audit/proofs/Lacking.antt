-- The least site that lacks a book is found.
use Rattle.std.proofs.Common.{◌≡◌, ◌⊎◌, ℕ, zero, suc, Bool, true, false, cond, List, [], ◌∷◌, Option, Some, None, IfNone, IfSome, slice_get, refl, sym, ap, ◌∙◌, subst, inl, inr, ⊎_elim, true≢false}
use Rattle.std.proofs.lemmas.Option.{same_Some, none-some}
use Rattle.node_core.specs.Requests.{registry}
use Rattle.audit.proofs.SiteOrder.{not_before_lesser, not_itself}
use Rattle.audit.specs.Audits.{AllHaveBooks, IsMissing, IsSender, LacksBook, sender_in, site_before}
use Rattle.run_book.specs.Books.{Book, has_site}
use Rattle.run_book.specs.Entries.{Entry}
use Rattle.audit.specs.Lacking.{least_lacking, lesser, missed, missed_at, missed_by, missed_in}
use Rattle.spawn_frame.specs.declared.site.Site.{Site}

-- it is the least of these sites, or there are none
abbrev pub IsLeast : (Site → Type 0) → Option Site → Type 0
IsLeast P None = (s : Site) → P s → ⊥
IsLeast P (Some t) = P t × ((s : Site) → P s → site_before s t ≡ false)

least_by : (P Q : Site → Type 0) (o : Option Site) → ((s : Site) → P s → Q s) → ((s : Site) → Q s → P s) → IsLeast P o → IsLeast Q o
least_by P Q None to from h = λ s q. h s (from s q)
least_by P Q (Some t) to from h = (to t h.0, λ s q. h.1 s (from s q))

module _ (books : List Book) where
  Lacks : Site → Type 0
  Lacks s = has_site s books ≡ false

  -- one of these, or this one
  abbrev Or : (Site → Type 0) → (Site → Type 0) → Site → Type 0
  Or P Q s = P s ⊎ Q s

  abbrev LacksAs : Site → Site → Type 0
  LacksAs site s = (s ≡ site) × (has_site s books ≡ false)

  lesser_more : (P : Site → Type 0) (site t : Site) (c : Bool) → site_before site t ≡ c → has_site site books ≡ false → IsLeast P (Some t)
      → IsLeast (Or P (LacksAs site)) (Some (cond c site t))
  lesser_more P site t true c e h = (
    inr (refl, e),
    λ s q. ⊎_elim
        (λ (p : P s). not_before_lesser site t s c (h.1 s p))
        (λ (l : LacksAs site s). subst (λ x. site_before x site ≡ false) (sym l.0) (not_itself site))
        q,
  )
  lesser_more P site t false c e h = (
    inl h.0,
    λ s q. ⊎_elim
        (λ (p : P s). h.1 s p)
        (λ (l : LacksAs site s). subst (λ x. site_before x t ≡ false) (sym l.0) c)
        q,
  )

  missed_more : (P : Site → Type 0) (site : Site) (o : Option Site) → IsLeast P o → IsLeast (Or P (LacksAs site)) (missed books site o)
  missed_more P site o h = go (has_site site books) refl o h
    where
      go : (b : Bool) → has_site site books ≡ b → (o : Option Site) → IsLeast P o → IsLeast (Or P (LacksAs site)) (cond b o (Some (lesser site o)))
      go true e o h =
          least_by P (Or P (LacksAs site)) o (λ s p. inl p)
          (λ s q. ⊎_elim (λ (p : P s). p) (λ (l : LacksAs site s). absurd (true≢false (sym e ∙ ap (λ x. has_site x books) (sym l.0) ∙ l.1))) q)
          h
      go false e None h = (
        inr (refl, e),
        λ s q. ⊎_elim
            (λ (p : P s). absurd (h s p))
            (λ (l : LacksAs site s). subst (λ x. site_before x site ≡ false) (sym l.0) (not_itself site))
            q,
      )
      go false e (Some t) h = lesser_more P site t (site_before site t) refl e h

  -- ---- the senders of entries

  abbrev SendsAs : Option Site → Site → Type 0
  SendsAs o s = (o ≡ Some s) × (has_site s books ≡ false)

  missed_at_more : (P : Site → Type 0) (sender o : Option Site) → IsLeast P o → IsLeast (Or P (SendsAs sender)) (missed_at books sender o)
  missed_at_more P None o h =
      least_by P (Or P (SendsAs None)) o (λ s p. inl p) (λ s q. ⊎_elim (λ (p : P s). p) (λ (l : SendsAs None s). absurd (none-some s l.0)) q) h
  missed_at_more P (Some site) o h =
      least_by (Or P (LacksAs site)) (Or P (SendsAs (Some site))) (missed books site o)
      (λ s q. ⊎_elim (λ (p : P s). inl p) (λ (l : LacksAs site s). inr (ap Some (sym l.0), l.1)) q)
      (λ s q. ⊎_elim (λ (p : P s). inl p) (λ (l : SendsAs (Some site) s). inr (sym (same_Some site s l.0), l.1)) q)
      (missed_more P site o h)

  -- one of the entries delivers a packet of the site
  abbrev pub SentIn : List Entry → Site → Type 0
  SentIn entries s = (place : ℕ) × (entry : Entry) × (slice_get entries place ≡ Some entry) × (sender_in entry.event ≡ Some s)

  abbrev LacksIn : List Entry → Site → Type 0
  LacksIn entries s = SentIn entries s × (has_site s books ≡ false)

  missed_by_more : (P : Site → Type 0) (entries : List Entry) (o : Option Site) → IsLeast P o → IsLeast (Or P (LacksIn entries)) (missed_by books entries o)
  missed_by_more P [] o h =
      least_by P (Or P (LacksIn [])) o (λ s p. inl p) (λ s q. ⊎_elim (λ (p : P s). p) (λ (l : LacksIn [] s). absurd (none-some l.0.1 l.0.2)) q) h
  missed_by_more P (x ∷ xs) o h =
      least_by (Or (Or P (SendsAs (sender_in x.event))) (LacksIn xs)) (Or P (LacksIn (x ∷ xs))) (missed_by books (x ∷ xs) o)
      (λ s q. ⊎_elim
      (λ (q : Or P (SendsAs (sender_in x.event)) s). ⊎_elim (λ (p : P s). inl p) (λ (l : SendsAs (sender_in x.event) s). inr ((0, x, refl, l.0), l.1)) q)
      (λ (l : LacksIn xs s). inr ((suc l.0.0, l.0.1, l.0.2, l.0.3), l.1))
      q)
      (λ s q. ⊎_elim (λ (p : P s). inl (inl p)) (λ (l : LacksIn (x ∷ xs) s). back P s l.0.0 l.0.1 l.0.2 l.0.3 l.1) q)
      (missed_by_more (Or P (SendsAs (sender_in x.event))) xs (missed_at books (sender_in x.event) o) (missed_at_more P (sender_in x.event) o h))
    where
      back : (P : Site → Type 0) (s : Site) (place : ℕ) (entry : Entry) → slice_get (x ∷ xs) place ≡ Some entry → sender_in entry.event ≡ Some s → has_site s books ≡ false
          → Or (Or P (SendsAs (sender_in x.event))) (LacksIn xs) s
      back P s zero entry e f n = inl (inr (ap (λ y. sender_in y.event) (same_Some x entry e) ∙ f, n))
      back P s (suc place) entry e f n = inr ((place, entry, e, f), n)

  -- ---- the senders of books

  abbrev LacksOf : List Book → Site → Type 0
  LacksOf rest s = IsSender rest s × (has_site s books ≡ false)

  missed_in_more : (P : Site → Type 0) (rest : List Book) (o : Option Site) → IsLeast P o → IsLeast (Or P (LacksOf rest)) (missed_in books rest o)
  missed_in_more P [] o h =
      least_by P (Or P (LacksOf [])) o (λ s p. inl p) (λ s q. ⊎_elim (λ (p : P s). p) (λ (l : LacksOf [] s). absurd (none-some l.0.book l.0.is)) q) h
  missed_in_more P (x ∷ xs) o h =
      least_by (Or (Or P (LacksIn x.entries)) (LacksOf xs)) (Or P (LacksOf (x ∷ xs))) (missed_in books (x ∷ xs) o)
      (λ s q. ⊎_elim
      (λ (q : Or P (LacksIn x.entries) s).
      ⊎_elim (λ (p : P s). inl p)
      (λ (l : LacksIn x.entries s). inr (record { at = 0; book = x; place = l.0.0; entry = l.0.1; is = refl; entry_is = l.0.2; sends = l.0.3 }, l.1)) q)
      (λ (l : LacksOf xs s).
      inr (record { at = suc l.0.at; book = l.0.book; place = l.0.place; entry = l.0.entry; is = l.0.is; entry_is = l.0.entry_is; sends = l.0.sends }, l.1))
      q)
      (λ s q. ⊎_elim (λ (p : P s). inl (inl p)) (λ (l : LacksOf (x ∷ xs) s). back P s l.0.at l.0.book l.0.place l.0.entry l.0.is l.0.entry_is l.0.sends l.1) q)
      (missed_in_more (Or P (LacksIn x.entries)) xs (missed_by books x.entries o) (missed_by_more P x.entries o h))
    where
      back : (P : Site → Type 0) (s : Site) (at : ℕ) (book : Book) (place : ℕ) (entry : Entry) → slice_get (x ∷ xs) at ≡ Some book → slice_get book.entries place ≡ Some entry
          → sender_in entry.event ≡ Some s → has_site s books ≡ false → Or (Or P (LacksIn x.entries)) (LacksOf xs) s
      back P s zero book place entry e f g n = inl (inr ((place, entry, ap (λ y. slice_get y.entries place) (same_Some x book e) ∙ f, g), n))
      back P s (suc at) book place entry e f g n = inr (record { at = at; book = book; place = place; entry = entry; is = e; entry_is = f; sends = g }, n)

  abbrev Nobody : Site → Type 0
  Nobody s = ⊥

  pub least_is : IsLeast (LacksBook books) (least_lacking books)
  least_is =
      least_by (Or (Or Nobody (LacksAs registry)) (LacksOf books)) (LacksBook books) (least_lacking books)
      (λ s q. ⊎_elim
      (λ (q : Or Nobody (LacksAs registry) s). ⊎_elim (λ (n : ⊥). absurd n) (λ (l : LacksAs registry s). (inl l.0, l.1)) q)
      (λ (l : LacksOf books s). (inr l.0, l.1))
      q)
      (λ s l. ⊎_elim
      (λ (e : s ≡ registry). inl (inr (e, l.1)))
      (λ (sender : IsSender books s). inr (sender, l.1))
      l.0)
      (missed_in_more (Or Nobody (LacksAs registry)) books (missed books registry None) (missed_more Nobody registry None (λ s n. n)))

pub none_lacks : (books : List Book) (o : Option Site) → o ≡ least_lacking books → IfNone o (AllHaveBooks books)
none_lacks books None e = subst (IsLeast (LacksBook books)) (sym e) (least_is books)
none_lacks books (Some site) e = tt

pub some_lacks : (books : List Book) (o : Option Site) → o ≡ least_lacking books → IfSome o (λ site. IsMissing books site)
some_lacks books None e = tt
some_lacks books (Some site) e =
    let h : IsLeast (LacksBook books) (Some site) = subst (IsLeast (LacksBook books)) (sym e) (least_is books) in
    record { lacks = h.0; least = h.1 }
