-- Proof: each line of a report has exactly one text.
use Rattle.std.proofs.Common.{◌≡◌, ℕ, ◌<◌, ◌^◌, inl, inr, Bool, false, List, [], ◌∷◌, Option, Some, None, refl, ap, arith, codes}
use Rattle.std.specs.Fmt.{decimal}
use Rattle.std.specs.List.{AllByRecursion}
use Rattle.std.specs.Option.{IfSome}
use Rattle.lset_words.specs.declared.Call.{Call as CallMade}
use Rattle.lset_words.specs.declared.Reply.{Reply}
use Rattle.lset_words.specs.declared.history.CallRecord.{CallRecord}
use Rattle.lset_words.specs.declared.history.Placed.{Placed}
use Rattle.lset_words.specs.Words.{key_of}
use Rattle.lset_text.specs.declared.words.CallWord.{CallWord}
use Rattle.lset_text.specs.declared.words.CallWord.TheVariants.{Add}
use Rattle.lset_text.specs.declared.words.Version.{Version}
use Rattle.lset_text.specs.declared.words.Version.TheVariants.{One, Two}
use Rattle.lset_text.specs.Parts.{line_of}
use Rattle.lset_text.specs.Spellings.{call_text, call_word_text, word_of, with_key, reply_text, HasWord}
use Rattle.lset_text.specs.Forms.{word, moment, reply, Form, Told, spell, AllFit, have_form, ArePieces}
use Rattle.lset_text.specs.Kinds.{LineKind}
use Rattle.lset_text.proofs.WordLaws.{with_key-word_of}
use Rattle.lset_text.proofs.KindLaws.{Knows, IsMade}
use Rattle.lset_text.proofs.NumberLaws.{any_fits, moment_fits}
use Rattle.lset_text.proofs.SectionLaws.{later}
use Rattle.lset_report.specs.declared.reading.report_lines.Line.{Line}
use Rattle.lset_report.specs.declared.reading.report_lines.Line.TheVariants as told
use Rattle.lset_report.specs.declared.reading.report_lines.Section.{Section}
use Rattle.lset_report.specs.declared.reading.report_lines.Section.TheVariants as section
use Rattle.lset_report.specs.Report.{ReportValue}
use Rattle.lset_report.specs.Texts.{end_pieces}
use Rattle.lset_report.specs.ReportReading.{call_told, call_form, IsEnd, IsCall, IsPlace, opening_kind, open_kind, ended_kind}
use Rattle.lset_report.specs.ReportReading.{place_kind, from_calls, from_order, from_keys, kinds, section_after}

-- ---- The fields of each line

abbrev pub pieces_of : Line → List (List ℕ)
pieces_of (told.Opening k) = codes "opening" ∷ decimal k ∷ []
pieces_of (told.Call n x) =
    codes "call" ∷ decimal n ∷ decimal x.thread ∷ call_text x.call ∷ decimal
    ((key_of x.call).0) ∷ decimal x.begun ∷ end_pieces x.ended
pieces_of (told.Place p) = codes "place" ∷ decimal p.call ∷ reply_text p.reply ∷ []
pieces_of (told.Key k) = codes "key" ∷ decimal k ∷ []
pieces_of told.End = codes "end" ∷ []

abbrev pub line_text : Line → List ℕ
line_text l = line_of (pieces_of l)

-- Holds if the numbers in a line are in range, and version `v` of the format allows the words in the line.
abbrev pub IsLine : Version → Line → Type 0
IsLine v (told.Opening k) = (k < 2 ^ 32) × (v ≡ Two)
IsLine v (told.Call n x) =
    (n < 2 ^ 32) × (x.thread < 2 ^ 32) × (0 < x.begun) × IfSome x.ended (λ (end : ℕ × Reply). 0 < end.0) × IsCall v x
IsLine v (told.Place p) = IsPlace v p
IsLine v (told.Key k) = k < 2 ^ 32
IsLine v told.End = Unit {0}

-- Holds if all sections of the report after `section` are empty.
abbrev pub Reaches : Section → ReportValue → Type 0
Reaches section.Opening r = (r.history.calls ≡ []) × (r.order ≡ []) × (r.keys ≡ [])
Reaches section.Calls r = (r.order ≡ []) × (r.keys ≡ [])
Reaches section.Order r = r.keys ≡ []
Reaches section.Keys r = Unit {0}
Reaches section.Done r = Unit {0}

-- ---- Lemmas about reading a line

-- Holds if the line is well formed, and all later sections of the report are empty.
abbrev pub IsNext : Version → ReportValue → Line → Type 0
IsNext v r l = IsLine v l × Reaches (section_after l) r

abbrev Known : Version → ReportValue → LineKind Line → Type 0
Known v r = Knows v pieces_of (IsNext v r)

-- Returns the line of a call. `o` is the end of the call: its moment (a position in the history) and its reply, or
-- `None` if the call is pending.
abbrev call_with : CallWord → ℕ → ℕ → ℕ → ℕ → Option (ℕ × Reply) → Line
call_with w n t k b o = told.Call n (record { thread = t; call = with_key w (record { 0 = k }); begun = b; ended = o })

called : (v : Version) (w : CallWord) (n t k b : ℕ) (o : Option (ℕ × Reply)) → n < 2 ^ 32 → t < 2 ^ 32 → k < 2 ^ 32
    → 0 < b → b < 2 ^ 32 → IfSome o (λ (end : ℕ × Reply). 0 < end.0) → IsEnd v o → HasWord v w
    → (codes "call" ∷ decimal n ∷ decimal t ∷ call_word_text w ∷ decimal k ∷ decimal b ∷ end_pieces o
    ≡ pieces_of (call_with w n t k b o)) × IsLine v (call_with w n t k b o)
called v Add n t k b o nl tl kl bs bl some ends has = (refl, (nl, tl, bs, some, (bl, kl, ends, has)))
called v w n t k b o nl tl kl bs bl some ends has = (refl, (nl, tl, bs, some, (bl, kl, ends, has)))

call_known : (v : Version) (r : ReportValue) (f : Form) (end : Told f → Option (ℕ × Reply)) → Reaches section.Calls r → ArePieces f
    → ((e : Told f) → AllFit v f e → (spell f e ≡ end_pieces (end e)) × IfSome (end e) (λ (x : ℕ × Reply). 0 < x.0) × IsEnd v (end e))
    → Known v r (call_form f, λ t. call_told t.1 (end t.1.1.1.1.1.1))
call_known v r f end reached are ends = (
  (refl, (omega arith, (omega arith, (tt, (omega arith, (omega arith, are)))))),
  λ t fit. let c = fit.1 in
      let e = ends t.1.1.1.1.1.1 c.1.1.1.1.1 in
      let is = called v t.1.1.1.0 t.1.0 t.1.1.0 t.1.1.1.1.0 t.1.1.1.1.1.0 (end t.1.1.1.1.1.1) (omega (arith, c.0.1))
      (omega (arith, c.1.0.1)) (omega (arith, c.1.1.1.0.1)) (omega (arith, c.1.1.1.1.0.0)) (omega (arith, c.1.1.1.1.0.1)) e.1 e.2
      c.1.1.0 in
      (rw e.0 is.0, (is.1, reached)),
)

open_known : (v : Version) (r : ReportValue) → Reaches section.Calls r → Known v r open_kind
open_known v r reached = call_known v r (word (codes "open") ∷ []) (λ e. None) reached (refl, tt) (λ e fit. (refl, tt, tt))

ended_known : (v : Version) (r : ReportValue) → Reaches section.Calls r → Known v r ended_kind
ended_known v r reached =
    call_known v r (moment ∷ reply ∷ []) (λ e. Some (e.0, e.1.0)) reached (omega arith, (tt, tt))
    (λ e fit. (refl, omega (arith, fit.0.0), (omega (arith, fit.0.1), fit.1.0)))

keys_known : (v : Version) (r : ReportValue) → AllByRecursion (Known v r) from_keys
keys_known v r = (
  ((refl, (omega arith, tt)), λ t fit. (refl, (omega (arith, fit.1.0.1), tt))),
  (((refl, tt), λ t fit. (refl, (tt, tt))), tt),
)

order_known : (v : Version) (r : ReportValue) → Reaches section.Order r → AllByRecursion (Known v r) from_order
order_known v r reached = (
  ((refl, (omega arith, (tt, tt))), λ t fit. (refl, ((omega (arith, fit.1.0.1), fit.1.1.0), reached))),
  keys_known v r,
)

calls_known : (v : Version) (r : ReportValue) → Reaches section.Calls r → AllByRecursion (Known v r) from_calls
calls_known v r reached = (open_known v r reached, (ended_known v r reached, order_known v r reached.1))

opening_known : (r : ReportValue) → Reaches section.Opening r → Known Two r opening_kind
opening_known r reached = ((refl, (omega arith, tt)), λ t fit. (refl, ((omega (arith, fit.1.0.1), refl), reached)))

pub kinds_known : (v : Version) (s : Section) (r : ReportValue) → Reaches s r → AllByRecursion (Known v r) (kinds v s)
kinds_known One section.Opening r reached = calls_known One r (reached.1, reached.2)
kinds_known Two section.Opening r reached = (opening_known r reached, calls_known Two r (reached.1, reached.2))
kinds_known v section.Calls r reached = calls_known v r reached
kinds_known v section.Order r reached = order_known v r reached
kinds_known v section.Keys r reached = keys_known v r
kinds_known v section.Done r reached = tt

-- ---- Lemmas about reading the text of a line

abbrev pub IsTold : Version → List (LineKind Line) → Line → Type 0
IsTold v ks l = IsMade v pieces_of ks l

pub opening_told : (k : ℕ) → k < 2 ^ 32 → IsTold Two (kinds Two section.Opening) (told.Opening k)
opening_told k low = inl ((tt, (k, tt)), refl, (tt, (any_fits k low, tt)))

call_again : (n t b : ℕ) (c : CallMade) (o : Option (ℕ × Reply))
    → told.Call n (record { thread = t; call = with_key (word_of c) (record { 0 = (key_of c).0 }); begun = b; ended = o })
    ≡ told.Call n (record { thread = t; call = c; begun = b; ended = o })
call_again n t b c o =
    ap (λ (d : CallMade). told.Call n (record { thread = t; call = d; begun = b; ended = o })) (with_key-word_of c)

call_fits : (v : Version) (f : Form) (w : CallWord) (n t k b : ℕ) (end : Told f) → n < 2 ^ 32 → t < 2 ^ 32 → k < 2 ^ 32
    → 0 < b → b < 2 ^ 32 → HasWord v w → AllFit v f end → AllFit v (call_form f) (tt, (n, (t, (w, (k, (b, end))))))
call_fits v f w n t k b end nl tl kl bs bl has fit =
    (tt, (any_fits n nl, (any_fits t tl, (has, (any_fits k kl, (moment_fits b bs bl, fit))))))

pub call_told_so : (v : Version) (n t b : ℕ) (c : CallMade) (o : Option (ℕ × Reply))
    → IsLine v (told.Call n (record { thread = t; call = c; begun = b; ended = o }))
    → IsTold v from_calls (told.Call n (record { thread = t; call = c; begun = b; ended = o }))
call_told_so v n t b c None is =
    let form = word (codes "open") ∷ [] in
    let fits = call_fits v form (word_of c) n t ((key_of c).0) b (tt, tt) is.0 is.1 is.4.1 is.2 is.4.0 is.4.3 (tt, tt) in
    inl ((tt, (n, (t, (word_of c, ((key_of c).0, (b, (tt, tt))))))), call_again n t b c None, fits)
call_told_so v n t b c (Some e) is =
    let form = moment ∷ reply ∷ [] in
    let fits = call_fits v form (word_of c) n t ((key_of c).0) b (e.0, (e.1, tt)) is.0 is.1 is.4.1 is.2 is.4.0 is.4.3
    (moment_fits e.0 is.3 is.4.2.0, (is.4.2.1, tt)) in
    inr (refl, inl ((tt, (n, (t, (word_of c, ((key_of c).0, (b, (e.0, (e.1, tt)))))))), call_again n t b c (Some e), fits))

pub place_told : (v : Version) (p : Placed) → IsPlace v p → IsTold v from_order (told.Place p)
place_told v p is = inl ((tt, (p.call, (p.reply, tt))), refl, (tt, (any_fits p.call is.0, (is.1, tt))))

pub key_told : (v : Version) (k : ℕ) → k < 2 ^ 32 → IsTold v from_keys (told.Key k)
key_told v k low = inl ((tt, (k, tt)), refl, (tt, (any_fits k low, tt)))

pub end_told_so : (v : Version) → IsTold v from_keys told.End
end_told_so v = inr (refl, inl ((tt, tt), refl, (tt, tt)))

-- ---- Lemmas about the section that the reader has reached

abbrev pub reached : List CallRecord → List Placed → List ℕ → Section
reached cs ps ks = later ks (later ps (later cs section.Opening section.Calls) section.Order) section.Keys

-- Returns whether the fields of the line match the form `k`.
abbrev Has : Version → LineKind Line → Line → Bool
Has v k l = have_form v k.0 (pieces_of l)

pub call_comes : (v : Version) (cs : List CallRecord) (l : Line) → Has v opening_kind l ≡ false → IsTold v from_calls l
    → IsTold v (kinds v (reached cs [] [])) l
call_comes One [] l other is = is
call_comes Two [] l other is = inr (other, is)
call_comes v (c ∷ cs) l other is = is

abbrev pub IsNoCall : Version → Line → Type 0
IsNoCall v l = (Has v opening_kind l ≡ false) × (Has v open_kind l ≡ false) × (Has v ended_kind l ≡ false)

pub place_comes : (v : Version) (cs : List CallRecord) (ps : List Placed) (l : Line) → IsNoCall v l → IsTold v from_order l
    → IsTold v (kinds v (reached cs ps [])) l
place_comes v cs [] l other is = call_comes v cs l other.0 (inr (other.1, inr (other.2, is)))
place_comes v cs (p ∷ ps) l other is = is

pub key_comes : (v : Version) (cs : List CallRecord) (ps : List Placed) (ks : List ℕ) (l : Line) → IsNoCall v l
    → Has v place_kind l ≡ false → IsTold v from_keys l → IsTold v (kinds v (reached cs ps ks)) l
key_comes v cs ps [] l other no_place is = place_comes v cs ps l other (inr (no_place, is))
key_comes v cs ps (k ∷ ks) l other no_place is = is
