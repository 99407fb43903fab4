-- Proof: the lines after a header determine the content that is read from them, and the content determines the lines.
-- Applies to every kind of text with event lines (schedules and drafts).
use Rattle.std.proofs.Common.{◌≡◌, ℕ, ◌+◌, ◌<◌, ◌≤◌, ◌^◌, inl, inr, Bool, true, false, cond, ltb, List, [], ◌∷◌, ◌++◌, map}
use Rattle.std.proofs.Common.{length, Result, Ok, Err, refl, sym, ap, subst, ◌∙◌, arith, append_assoc, codes}
use Rattle.std.specs.Fmt.{decimal}
use Rattle.std.specs.List.{sum_by, AllByRecursion}
use Rattle.std.proofs.lemmas.Bool.{lt-ltb, le-ltb, ltb-true, ltb-false}
use Rattle.std.proofs.lemmas.List.{append-nil, map_push}
use Rattle.std.proofs.lemmas.List.Sums.{sum_by-cons, sum_by-append}
use Rattle.lset_words.specs.declared.TheConstants.{MOST_OPENING}
use Rattle.lset_words.specs.Words.{Opens}
use Rattle.lset_words.proofs.Bounds.{opens_empty}
use Rattle.lset_text.specs.declared.headers.Header.{Header}
use Rattle.lset_text.specs.declared.words.Version.{Version}
use Rattle.lset_text.specs.declared.words.Version.TheVariants.{One, Two}
use Rattle.lset_text.specs.Parts.{cut_at, line_of, text_of, Lacks}
use Rattle.lset_text.specs.Forms.{have_form}
use Rattle.lset_text.specs.Kinds.{LineKind, kind_as, made, first_of, line_in}
use Rattle.lset_text.specs.Lines.{Leads}
use Rattle.lset_text.specs.Headers.{header_lines, IsHeader}
use Rattle.lset_text.specs.Openings.{opening_form, opening_line, opening_lines, is_above, HasOpening}
use Rattle.lset_text.proofs.ReadingLaws.{bind_ok, ok_is}
use Rattle.lset_text.proofs.OpeningLaws.{is_header, has_none, opens_more}
use Rattle.lset_text.proofs.KindLaws.{Knows, IsMade, line_found, line_found_lacks, line_made, first_as, knows_as, made_as}
use Rattle.lset_text.proofs.LineLaws.{leads_on, items_lead}
use Rattle.lset_text.proofs.SectionLaws.{middle, openings_lead}
use Rattle.lset_text.proofs.TextLaws.{all_both, text_found, text_again}
use Rattle.lset_schedule.specs.declared.TheConstants.{MOST_EVENTS}
use Rattle.lset_text.specs.declared.causes.Cause.{Cause}
use Rattle.lset_text.specs.declared.causes.Cause.TheVariants.{Event, TooMany, Opening}
use Rattle.lset_text.specs.Texts.{text_from}
use Rattle.lset_schedule.specs.ScheduleReading.{EventLines, BodyValue, no_lines, Item, opens, event, opening_kind, kinds_after}
use Rattle.lset_schedule.specs.ScheduleReading.{with_item, with_line, grammar, texts}

-- ---- Lemmas about appending a line to a text

room_for_key : {L : Type 0} (b c : Bool) (s t : BodyValue L)
    → cond b (cond c (Ok s) (Err Opening)) (Err TooMany) ≡ Ok t → (b ≡ true) × (c ≡ true) × (s ≡ t)
room_for_key true true s t is = (refl, refl, ok_is s t is)
room_for_key true false s t is = absurd cc
room_for_key false c s t is = absurd cc

room_for_events : {L : Type 0} (b : Bool) (s t : BodyValue L) → cond b (Err TooMany) (Ok s) ≡ Ok t → (b ≡ false) × (s ≡ t)
room_for_events true s t is = absurd cc
room_for_events false s t is = (refl, ok_is s t is)

-- Holds if the content `s` can be written in version `v` of the format: `s` is within the limits, and `v` allows the
-- lines and the opening keys (keys at the start) that `s` contains.
pub record HasText {L : Type 0} (text : EventLines L) (v : Version) (Good : L → Type 0) (s : BodyValue L) : Type 0 where
  pub opens : Opens (record { threads = s.header.threads; quota = s.header.quota; keys = s.keys })
  pub opening : HasOpening v s.keys
  pub lines : AllByRecursion Good s.lines
  pub few : sum_by text.count s.lines ≤ MOST_EVENTS

module _ {L : Type 0} (text : EventLines L) (v : Version) (title : List ℕ) (pieces : L → List (List ℕ)) (Good : L → Type 0)
    (known : AllByRecursion (Knows v pieces Good) text.kinds) (makes : (l : L) → Good l → IsMade v pieces text.kinds l)
    (apart : (l : L) → Good l → have_form v opening_form (pieces l) ≡ false) where
  abbrev item_pieces : Item L → List (List ℕ)
  item_pieces (opens k) = codes "opening" ∷ decimal k ∷ []
  item_pieces (event l) = pieces l

  abbrev IsItem : Item L → Type 0
  IsItem (opens k) = (k < 2 ^ 32) × (v ≡ Two)
  IsItem (event l) = Good l

  abbrev line_text : L → List ℕ
  line_text l = line_of (pieces l)

  abbrev body_lines : BodyValue L → List (List ℕ)
  body_lines s = opening_lines s.keys ++ map line_text s.lines

  abbrev text_lines : BodyValue L → List (List ℕ)
  text_lines s = header_lines title s.header ++ body_lines s

  -- ---- Lemmas about the possible patterns of the next line

  events_known : AllByRecursion (Knows v item_pieces IsItem) (map (kind_as event) text.kinds)
  events_known = knows_as event v pieces item_pieces (λ l. refl) Good IsItem (λ l good. good) text.kinds known

  opening_known : v ≡ Two → Knows v item_pieces IsItem opening_kind
  opening_known two = ((refl, (omega arith, tt)), λ t fit. (refl, (omega (arith, fit.1.0.1), two)))

  known_after : (w : Version) (ls : List L) → w ≡ v → AllByRecursion (Knows v item_pieces IsItem) (kinds_after text w ls)
  known_after One ls is = events_known
  known_after Two [] is = (opening_known (sym is), events_known)
  known_after Two (l ∷ ls) is = events_known

  event_made : (l : L) → Good l → IsMade v item_pieces (map (kind_as event) text.kinds) (event l)
  event_made l good = made_as event v pieces item_pieces (λ x. refl) text.kinds l (makes l good)

  made_after : (w : Version) (ls : List L) (l : L) → Good l → IsMade v item_pieces (kinds_after text w ls) (event l)
  made_after One ls l good = event_made l good
  made_after Two [] l good = inr (apart l good, event_made l good)
  made_after Two (x ∷ ls) l good = event_made l good

  no_key : (r : Result L Cause) (k : ℕ) → made event r ≡ Ok (opens k) → ⊥
  no_key (Ok l) k is = cc
  no_key (Err c) k is = cc

  none_above : (w : Version) (ls : List L) (ps : List (List ℕ)) (k : ℕ) → first_of v Event (kinds_after text w ls) ps ≡ Ok (opens k)
      → ls ≡ []
  none_above One ls ps k is = absurd (no_key (first_of v Event text.kinds ps) k (sym (first_as event v Event text.kinds ps) ∙ is))
  none_above Two [] ps k is = refl
  none_above Two (l ∷ ls) ps k is =
      absurd (no_key (first_of v Event text.kinds ps) k (sym (first_as event v Event text.kinds ps) ∙ is))

  -- ---- Lemmas about a single line

  -- Holds if the content `t` can be written, and its text is the text of `s` followed by the line `x`.
  abbrev Adds : BodyValue L → List ℕ → BodyValue L → Type 0
  Adds s x t = HasText text v Good t × (text_lines t ≡ text_lines s ++ x ∷ [])

  key_adds : (s t : BodyValue L) (k : ℕ) → HasText text v Good s → IsItem (opens k) → s.lines ≡ []
      → with_item text s (opens k) ≡ Ok t → Adds s (opening_line k) t
  key_adds s t k has is none e =
      let more : BodyValue L = record s { keys = s.keys ++ k ∷ [] } in
      let room = room_for_key (ltb (length s.keys) MOST_OPENING) (is_above s.keys k) more t e in
      let head = header_lines title s.header in
      let after : body_lines more ≡ body_lines s ++ opening_line k ∷ [] =
      rw none (append-nil (opening_lines (s.keys ++ k ∷ [])) ∙ map_push opening_line s.keys k
      ∙ ap (λ (ls : List (List ℕ)). ls ++ opening_line k ∷ []) (sym (append-nil (opening_lines s.keys)))) in
      let lines = ap (λ (ls : List (List ℕ)). head ++ ls) after ∙ sym (append_assoc head (body_lines s) (opening_line k ∷ [])) in
      subst (Adds s (opening_line k)) room.2 (
        record {
          opens = opens_more (record { threads = s.header.threads; quota = s.header.quota; keys = s.keys }) k has.opens is.0
              (ltb-true _ _ room.0) room.1;
          opening = subst (λ w. HasOpening w (s.keys ++ k ∷ [])) (sym is.1) tt;
          lines = has.lines;
          few = has.few;
        },
        lines,
      )

  event_adds : (s t : BodyValue L) (l : L) → HasText text v Good s → Good l → with_item text s (event l) ≡ Ok t
      → Adds s (line_text l) t
  event_adds s t l has good e =
      let more : BodyValue L = record s { lines = s.lines ++ l ∷ [] } in
      let room = room_for_events (ltb MOST_EVENTS (sum_by text.count s.lines + text.count l)) more t e in
      let keys = opening_lines s.keys in
      let head = header_lines title s.header in
      let after = ap (λ (ls : List (List ℕ)). keys ++ ls) (map_push line_text s.lines l)
      ∙ sym (append_assoc keys (map line_text s.lines) (line_text l ∷ [])) in
      let lines = ap (λ (ls : List (List ℕ)). head ++ ls) after ∙ sym (append_assoc head (body_lines s) (line_text l ∷ [])) in
      let sum = sum_by-append text.count s.lines (l ∷ []) in
      let last = sum_by-cons text.count l [] in
      rw (← room.1) (
        record {
          opens = has.opens;
          opening = has.opening;
          lines = all_both Good s.lines (l ∷ []) has.lines (good, tt);
          few = omega (arith, sum, last, ltb-false _ _ room.0);
        },
        lines,
      )

  item_adds : (s t : BodyValue L) (ps : List (List ℕ)) (i : Item L) → HasText text v Good s → IsItem i
      → first_of v Event (kinds_after text v s.lines) ps ≡ Ok i → with_item text s i ≡ Ok t → Adds s (line_of (item_pieces i)) t
  item_adds s t ps (opens k) has is told e = key_adds s t k has is (none_above v s.lines ps k told) e
  item_adds s t ps (event l) has is told e = event_adds s t l has is e

  line_adds : (s t : BodyValue L) (x : List ℕ) → HasText text v Good s → with_line text v s x ≡ Ok t → Adds s x t × Lacks 10 x
  line_adds s t x has is =
      let kinds = kinds_after text v s.lines in
      let known = known_after v s.lines refl in
      let i = bind_ok (line_in v Event kinds x) (with_item text s) t is in
      let found = line_found v Event item_pieces IsItem kinds x i.0 known i.1 in
      let added = item_adds s t (cut_at 32 x) i.0 has found.1 i.1 i.2 in (
        (added.0, added.1 ∙ ap (λ (y : List ℕ). text_lines s ++ y ∷ []) (sym found.0)),
        line_found_lacks v Event item_pieces IsItem kinds x i.0 known i.1,
      )

  -- ---- Proof that each written text can be read

  event_step : (s : BodyValue L) (l : L) → Good l → sum_by text.count s.lines + text.count l ≤ MOST_EVENTS
      → with_line text v s (line_text l) ≡ Ok (record s { lines = s.lines ++ l ∷ [] })
  event_step s l good few =
      let kinds = kinds_after text v s.lines in
      rw (
        line_made v Event item_pieces IsItem kinds (event l) (known_after v s.lines refl) (made_after v s.lines l good),
        le-ltb MOST_EVENTS (sum_by text.count s.lines + text.count l) few,
      ) refl

  events_lead : (s : BodyValue L) (ls : List L) → AllByRecursion Good ls → sum_by text.count ls ≤ MOST_EVENTS
      → Leads (grammar text v) (record s { lines = [] }) (map line_text ls) (record s { lines = ls })
  events_lead s ls are few =
      items_lead (grammar text v) (λ xs. record s { lines = xs }) (λ n. map line_text) (λ n. line_text) (λ n. refl)
      (λ n x xs. refl) [] ls
      (λ front more l is. event_step (record s { lines = front }) l (middle Good front more ls l is are)
      (omega (arith, few, ap (sum_by text.count) is, sum_by-append text.count front (l ∷ more), sum_by-cons text.count l more)))

  abbrev of_keys : Header → List ℕ → BodyValue L
  of_keys h ks = record { header = h; keys = ks; lines = [] }

  key_step : (h : Header) (ks : List ℕ) (k : ℕ) → v ≡ Two → k < 2 ^ 32 → length ks < MOST_OPENING → is_above ks k ≡ true
      → with_line text v (of_keys h ks) (opening_line k) ≡ Ok (of_keys h (ks ++ k ∷ []))
  key_step h ks k two low few above =
      let kinds : List (LineKind (Item L)) = opening_kind ∷ map (kind_as event) text.kinds in
      let told = line_made v Event item_pieces IsItem kinds (opens k) (opening_known two, events_known)
      (inl ((tt, (k, tt)), refl, (tt, ((omega arith, omega (arith, low)), tt)))) in
      let first : kinds_after text v [] ≡ kinds = ap (λ w. kinds_after text w []) two in
      rw (first, told, lt-ltb (length ks) MOST_OPENING few, above) refl

  body_leads : (t : BodyValue L) → HasText text v Good t → Leads (grammar text v) (no_lines t.header) (body_lines t) t
  body_leads t has =
      leads_on (grammar text v) (no_lines t.header) (of_keys t.header t.keys) t (opening_lines t.keys) (map line_text t.lines)
      (openings_lead (grammar text v) (of_keys t.header) v (record { threads = t.header.threads; quota = t.header.quota; keys = t.keys })
      has.opens has.opening (λ front k two room low above. key_step t.header front k two low room above))
      (events_lead t t.lines has.lines has.few)

  -- ---- Proof for complete texts

  starts : (h : Header) → IsHeader h → HasText text v Good (no_lines h)
  starts h is = record {
    opens = opens_empty h.threads h.quota is;
    opening = has_none v;
    lines = tt;
    few = omega arith;
  }

  pub body_found : (bytes : List ℕ) (t : BodyValue L) → text_from (texts text v title) (cut_at 10 bytes) ≡ Ok t
      → HasText text v Good t × (bytes ≡ text_of (text_lines t))
  body_found bytes t is =
      let found = text_found (texts text v title) (HasText text v Good) text_lines (λ h fits. (starts h fits, refl))
      (λ s u x has e. (line_adds s u x has e).0) (λ s u e. ok_is s u e) bytes t is in
      (found.2, found.0)

  pub body_again : (t : BodyValue L) → Lacks 10 title → HasText text v Good t
      → (cut_at 10 (text_of (text_lines t)) ≡ header_lines title t.header ++ (body_lines t ++ [] ∷ []))
      × (text_from (texts text v title) (header_lines title t.header ++ (body_lines t ++ [] ∷ [])) ≡ Ok t)
  body_again t free has =
      let fits = is_header t.header t.keys has.opens in
      text_again (texts text v title) (HasText text v Good)
      (λ s u x p e. let added = line_adds s u x p e in (added.0.0, added.1)) t.header (body_lines t) t free fits
      (starts t.header fits) (body_leads t has) refl
