-- Proof: reading inverts writing for headers. Reading a text yields a header if and only if the text begins with the
-- four lines of the header.
use Rattle.std.proofs.Common.{◌≡◌, Result, ℕ, ◌<◌, ◌≤◌, ◌^◌, true, List, [], ◌∷◌, ◌++◌, length, Option, Some, None, Ok, Err, refl}
use Rattle.std.proofs.Common.{ap, subst, ◌∙◌, arith, codes}
use Rattle.std.specs.Prelude.{option_map}
use Rattle.std.specs.List.{AllByRecursion}
use Rattle.std.specs.Str.{bytes_eq}
use Rattle.std.proofs.lemmas.Slice.Eq.{bytes_eq-Decides}
use Rattle.lset_words.specs.declared.TheConstants.{MOST_THREADS, MOST_QUOTA}
use Rattle.lset_words.specs.declared.Kind.{Kind}
use Rattle.lset_text.specs.declared.headers.Header.{Header}
use Rattle.lset_text.specs.declared.causes.Cause.{Cause}
use Rattle.lset_text.specs.declared.causes.LineFault.{LineFault}
use Rattle.lset_text.specs.declared.causes.Cause.TheVariants as wrong
use Rattle.lset_text.specs.declared.words.Version.TheVariants.{Two}
use Rattle.lset_text.specs.Causes.{fault}
use Rattle.lset_text.specs.Parts.{cut_at, text_of, all_from, Lacks}
use Rattle.lset_text.specs.Forms.{told_in}
use Rattle.lset_text.specs.Results.{◌>>=◌, or_fail}
use Rattle.lset_text.specs.Headers.{kind_line, number_line, header_lines, IsHeader, title_in, kind_form, kind_in, number_form}
use Rattle.lset_text.specs.Headers.{number_after, line_due, told_by_line, title_told, kind_told, threads_told, quota_told}
use Rattle.lset_text.specs.Headers.{header_of}
use Rattle.lset_text.proofs.PartLaws.{some_part, cut_text, text_from_cut}
use Rattle.lset_text.proofs.ReadingLaws.{bind_ok, or_fail_ok, test_some, ok_is}
use Rattle.lset_text.proofs.WordLaws.{same_bytes}
use Rattle.lset_text.proofs.FormLaws.{line_ok, line_again, form_line_lacks}

-- ---- Lemmas about a single header line

title_ok : (title line told : List ℕ) → title_in title line ≡ Some told → line ≡ title
title_ok title line told is = same_bytes line title (test_some (bytes_eq line title) (Some title) told is).0

second : {A : Type 0} (o : Option (Unit {0} × (A × Unit {0}))) (a : A) → option_map (λ t. t.1.0) o ≡ Some a → o ≡ Some (tt, (a, tt))
second {A} None a is = absurd cc
second {A} (Some t) a is = ap (λ (x : A). Some (tt, (x, tt))) (some_is t.1.0 a is)
  where
    some_is : (x y : A) → Some x ≡ Some y → x ≡ y
    some_is x y e = cc

pub kind_in_ok : (line : List ℕ) (k : Kind) → kind_in line ≡ Some k → line ≡ kind_line k
kind_in_ok line k is =
    (line_ok Two kind_form line (tt, (k, tt)) (refl, (tt, tt)) (second (told_in Two kind_form (cut_at 32 line)) k is)).0

pub kind_in_again : (k : Kind) → kind_in (kind_line k) ≡ Some k
kind_in_again k = ap (option_map (λ t. t.1.0)) (line_again Two kind_form (tt, (k, tt)) (refl, (tt, tt)) (tt, (tt, tt)))

pub number_after_ok : (w : List ℕ) (low high : ℕ) (line : List ℕ) (n : ℕ) → all_from 45 w ≡ true → high < 2 ^ 64
    → number_after w low high line ≡ Some n → (line ≡ number_line w n) × (low ≤ n) × (n ≤ high)
number_after_ok w low high line n letters wide is =
    let form = number_form w low high in
    let found = line_ok Two form line (tt, (n, tt)) (letters, (wide, tt)) (second (told_in Two form (cut_at 32 line)) n is) in
    (found.0, found.1.1.0.0, found.1.1.0.1)

pub number_after_again : (w : List ℕ) (low high n : ℕ) → all_from 45 w ≡ true → high < 2 ^ 64 → low ≤ n → n ≤ high
    → number_after w low high (number_line w n) ≡ Some n
number_after_again w low high n letters wide low_ok high_ok =
    ap (option_map (λ t. t.1.0))
    (line_again Two (number_form w low high) (tt, (n, tt)) (letters, (wide, tt)) (tt, ((low_ok, high_ok), tt)))

-- ---- Lemmas about splitting off the next header line

pub line_due_goes : (line : ℕ) (cause : Cause) (x : List ℕ) (parts : List (List ℕ)) → 0 < length parts
    → line_due line cause (x ∷ parts) ≡ Ok (x, parts)
line_due_goes line cause x [] h = absurd (omega arith)
line_due_goes line cause x (y ∷ more) h = refl

-- A header line, and the parts of the text after the header line.
abbrev Due : Type 0
Due = List ℕ × List (List ℕ)

abbrev IsDue : List (List ℕ) → Due → Type 0
IsDue parts due = (parts ≡ due.0 ∷ due.1) × (0 < length due.1)

line_due_ok : (line : ℕ) (cause : Cause) (parts : List (List ℕ)) (due : Due)
    → line_due line cause parts ≡ Ok due → IsDue parts due
line_due_ok line cause [] due is = absurd cc
line_due_ok line cause (rest ∷ []) due is = absurd cc
line_due_ok line cause (a ∷ b ∷ more) due is = subst (IsDue (a ∷ b ∷ more)) (ok_is (a, b ∷ more) due is) (refl, omega arith)

-- Holds if `read` returns the value `told.0` for the first item of `parts`, and `told.1`, which is not empty, contains
-- all other items.
abbrev IsToldBy : {A : Type 0} → (List ℕ → Option A) → List (List ℕ) → A × List (List ℕ) → Type 0
IsToldBy read parts told = (x : List ℕ) × (parts ≡ x ∷ told.1) × (read x ≡ Some told.0) × (0 < length told.1)

told_ok : {A : Type 0} (line : ℕ) (cause : Cause) (read : List ℕ → Option A) (parts : List (List ℕ))
    (told : A × List (List ℕ)) → told_by_line line cause read parts ≡ Ok told → IsToldBy read parts told
unfolding told_by_line
told_ok line cause read parts told is =
    let due = bind_ok (line_due line cause parts) (λ p. or_fail (fault line cause) (read p.0) >>= λ a. Ok (a, p.1)) told is in
    let value = bind_ok (or_fail (fault line cause) (read due.0.0)) (λ a. Ok (a, due.0.1)) told due.2 in
    let first = line_due_ok line cause parts due.0 due.1 in
    let some = or_fail_ok (fault line cause) (read due.0.0) value.0 value.1 in
    subst (IsToldBy read parts) (ok_is (value.0, due.0.1) told value.2) (due.0.0, first.0, some, first.1)

told_again : {A : Type 0} (line : ℕ) (cause : Cause) (read : List ℕ → Option A) (x y : List ℕ) (more : List (List ℕ))
    (told : A) → read x ≡ Some told → told_by_line line cause read (x ∷ y ∷ more) ≡ Ok (told, y ∷ more)
unfolding told_by_line
told_again line cause read x y more told is = rw is refl

-- ---- Lemmas about the whole header

abbrev Found : Type 0
Found = Header × List (List ℕ)

-- `after_quota` continues reading a header after the quota line. `after_threads`, `after_kind` and `after_title`
-- continue after the threads line, the kind line and the title line, respectively.
abbrev after_quota : Kind → ℕ → ℕ × List (List ℕ) → Result Found LineFault
after_quota kind threads quota = Ok (record { kind = kind; threads = threads; quota = quota.0 }, quota.1)

abbrev after_threads : Kind → ℕ × List (List ℕ) → Result Found LineFault
after_threads kind threads = quota_told threads.1 >>= after_quota kind threads.0

abbrev after_kind : Kind × List (List ℕ) → Result Found LineFault
after_kind kind = threads_told kind.1 >>= after_threads kind.0

abbrev after_title : List ℕ × List (List ℕ) → Result Found LineFault
after_title first = kind_told first.1 >>= after_kind

abbrev BeginsWith : List ℕ → List (List ℕ) → Found → Type 0
BeginsWith title parts found = (parts ≡ header_lines title found.0 ++ found.1) × IsHeader found.0 × (0 < length found.1)

-- ---- Reading a header never fails with `Memory`

abbrev NeverMemory : {A : Type 0} → Result A LineFault → Type 0
NeverMemory r = (e : LineFault) → r ≡ Err e → e.cause ≡ wrong.Memory → ⊥

then_never : {A B : Type 0} (r : Result A LineFault) (f : A → Result B LineFault) → NeverMemory r → ((x : A) → NeverMemory (f x))
    → NeverMemory (r >>= f)
then_never (Ok x) f first next e is memory = next x e is memory
then_never (Err d) f first next e is memory = first e (cc) memory

told_never : {A : Type 0} (line : ℕ) (cause : Cause) (read : List ℕ → Option A) (parts : List (List ℕ)) → (cause ≡ wrong.Memory → ⊥)
    → NeverMemory (told_by_line line cause read parts)
unfolding told_by_line
told_never line cause read parts other = grind arith

pub header_never : (title : List ℕ) (parts : List (List ℕ)) → NeverMemory (header_of title parts)
unfolding header_of
header_never title parts = grind (arith, then_never, told_never, codes)

joined : {xs ys zs : List (List ℕ)} {x y : List ℕ} → xs ≡ x ∷ ys → x ≡ y → ys ≡ zs → xs ≡ y ∷ zs
joined e f g = cc

pub header_ok : (title : List ℕ) (parts : List (List ℕ)) (found : Found)
    → header_of title parts ≡ Ok found → BeginsWith title parts found
unfolding header_of
header_ok title parts found is =
    let first = bind_ok (title_told title parts) after_title found is in
    let kind = bind_ok (kind_told first.0.1) after_kind found first.2 in
    let threads = bind_ok (threads_told kind.0.1) (after_threads kind.0.0) found kind.2 in
    let quota = bind_ok (quota_told threads.0.1) (after_quota kind.0.0 threads.0.0) found threads.2 in
    let line1 = told_ok 1 wrong.Header (title_in title) parts first.0 first.1 in
    let line2 = told_ok 2 wrong.Kind kind_in first.0.1 kind.0 kind.1 in
    let line3 = told_ok 3 wrong.Threads (number_after (codes "threads") 1 MOST_THREADS) kind.0.1 threads.0 threads.1 in
    let line4 = told_ok 4 wrong.Quota (number_after (codes "quota") 0 MOST_QUOTA) threads.0.1 quota.0 quota.1 in
    let is_title = title_ok title line1.0 first.0.0 line1.2 in
    let is_kind = kind_in_ok line2.0 kind.0.0 line2.2 in
    let is_threads = number_after_ok (codes "threads") 1 MOST_THREADS line3.0 threads.0.0 refl (omega arith) line3.2 in
    let is_quota = number_after_ok (codes "quota") 0 MOST_QUOTA line4.0 quota.0.0 refl (omega arith) line4.2 in
    let header : Header = record { kind = kind.0.0; threads = threads.0.0; quota = quota.0.0 } in
    let within : IsHeader header = omega arith in
    let all : parts ≡ header_lines title header ++ quota.0.1 =
    joined line1.1 is_title (joined line2.1 is_kind (joined line3.1 is_threads.0 (joined line4.1 is_quota.0 refl))) in
    subst (BeginsWith title parts) (ok_is (header, quota.0.1) found quota.2) (all, within, line4.3)

same_true : (w : List ℕ) → bytes_eq w w ≡ true
same_true w = (bytes_eq-Decides w w).1 refl

title_again : (title : List ℕ) → title_in title title ≡ Some title
title_again title = rw (same_true title) refl

pub header_again : (title : List ℕ) (h : Header) (y : List ℕ) (more : List (List ℕ)) → IsHeader h
    → header_of title (header_lines title h ++ y ∷ more) ≡ Ok (h, y ∷ more)
unfolding header_of
header_again title h y more within =
    let line2 = kind_line h.kind in
    let line3 = number_line (codes "threads") h.threads in
    let line4 = number_line (codes "quota") h.quota in
    let parts4 : List (List ℕ) = line4 ∷ y ∷ more in
    let is_title = told_again 1 wrong.Header (title_in title) title line2 (line3 ∷ parts4) title (title_again title) in
    let is_kind = told_again 2 wrong.Kind kind_in line2 line3 parts4 h.kind (kind_in_again h.kind) in
    let is_threads = told_again 3 wrong.Threads (number_after (codes "threads") 1 MOST_THREADS) line3 line4 (y ∷ more) h.threads
    (number_after_again (codes "threads") 1 MOST_THREADS h.threads refl (omega arith) (omega (arith, within.some)) within.few) in
    let is_quota = told_again 4 wrong.Quota (number_after (codes "quota") 0 MOST_QUOTA) line4 y more h.quota
    (number_after_again (codes "quota") 0 MOST_QUOTA h.quota refl (omega arith) (omega arith) within.small) in
    rw (is_title, is_kind, is_threads, is_quota) refl

pub number_line_lacks : (w : List ℕ) (n : ℕ) → all_from 45 w ≡ true → n < 2 ^ 64 → Lacks 10 (number_line w n)
number_line_lacks w n letters small =
    form_line_lacks Two (number_form w 0 n) (tt, (n, tt)) (letters, (small, tt)) (tt, ((omega arith, omega arith), tt))

pub header_lacks : (title : List ℕ) (h : Header) → Lacks 10 title → IsHeader h → AllByRecursion (Lacks 10) (header_lines title h)
header_lacks title h lacks within =
    let line2 = form_line_lacks Two kind_form (tt, (h.kind, tt)) (refl, (tt, tt)) (tt, (tt, tt)) in
    let line3 = number_line_lacks (codes "threads") h.threads refl (omega (arith, within.few)) in
    let line4 = number_line_lacks (codes "quota") h.quota refl (omega (arith, within.small)) in
    (lacks, (line2, (line3, (line4, tt))))

-- ---- Lemmas about texts that begin with a header

pub header_in_text : (title text : List ℕ) (h : Header) (rest : List ℕ)
    → header_of title (cut_at 10 text) ≡ Ok (h, cut_at 10 rest) → IsHeader h × (text ≡ text_of (header_lines title h) ++ rest)
header_in_text title text h rest is =
    let found = header_ok title (cut_at 10 text) (h, cut_at 10 rest) is in
    (found.1, text_from_cut text (header_lines title h) rest found.0)

pub header_from_text : (title : List ℕ) (h : Header) (rest : List ℕ) → Lacks 10 title → IsHeader h
    → header_of title (cut_at 10 (text_of (header_lines title h) ++ rest)) ≡ Ok (h, cut_at 10 rest)
header_from_text title h rest lacks within =
    let cut = cut_text (header_lines title h) rest (header_lacks title h lacks within) in
    ap (header_of title) cut ∙ again (cut_at 10 rest) (some_part 10 rest)
  where
    again : (parts : List (List ℕ)) → 0 < length parts → header_of title (header_lines title h ++ parts) ≡ Ok (h, parts)
    again [] some = absurd (omega arith)
    again (y ∷ more) some = header_again title h y more within
