-- Encodes a record of completed calls as a list of items. Two records are equal if their lists are equal.
use Rattle.std.proofs.Common.{◌≡◌, ℕ, List, [], ◌∷◌, ◌++◌, refl, ap, ◌∙◌, append_assoc}
use Rattle.std.specs.Coded.{Coded, code_by, codes}
use Rattle.lset_words.specs.Records.{CallMade, Record, fresh, called, gathered}

pub data Item : Type 0 where
  start : ℕ → Item
  call : CallMade → Item
  take : Item

abbrev pub items_of : Record → List Item
items_of (fresh t) = start t ∷ []
items_of (called r c) = items_of r ++ call c ∷ []
items_of (gathered r g) = items_of r ++ (items_of g ++ take ∷ [])

abbrev pub read_items : List Record → List Item → List Record
read_items rs [] = rs
read_items rs (start t ∷ is) = read_items (fresh t ∷ rs) is
read_items [] (call c ∷ is) = []
read_items (r ∷ rs) (call c ∷ is) = read_items (called r c ∷ rs) is
read_items [] (take ∷ is) = []
read_items (g ∷ []) (take ∷ is) = []
read_items (g ∷ r ∷ rs) (take ∷ is) = read_items (gathered r g ∷ rs) is

abbrev pub first_of : List Record → Record
first_of [] = fresh 0
first_of (r ∷ rs) = r

reads : (r : Record) (rs : List Record) (is : List Item) → read_items rs (items_of r ++ is) ≡ read_items (r ∷ rs) is
reads (fresh t) rs is = refl
reads (called r c) rs is = ap (read_items rs) (append_assoc (items_of r) (call c ∷ []) is) ∙ reads r rs (call c ∷ is)
reads (gathered r g) rs is =
    ap (read_items rs)
    (append_assoc (items_of r) (items_of g ++ take ∷ []) is
    ∙ ap (λ l. items_of r ++ l) (append_assoc (items_of g) (take ∷ []) is))
    ∙ (reads r rs (items_of g ++ take ∷ is) ∙ reads g (r ∷ rs) (take ∷ is))

pub read_back : (r : Record) → first_of (read_items [] (items_of r)) ≡ r
read_back r = ap (λ l. first_of (read_items [] l)) (sym_nil (items_of r)) ∙ ap first_of (reads r [] [])
  where
    sym_nil : (l : List Item) → l ≡ l ++ []
    sym_nil [] = refl
    sym_nil (x ∷ l) = ap (λ k. x ∷ k) (sym_nil l)

pub record_code : Coded Record
record_code = code_by (List Item) (Prim.hlevel codes) items_of (λ l. first_of (read_items [] l)) read_back
