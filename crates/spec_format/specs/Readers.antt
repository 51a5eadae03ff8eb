-- What a reader answers, and nom's streaming combinators, by which the Rust's readers are put together.
use Rattle.std.specs.Prelude.{ℕ, zero, suc, Bool, true, false, List, [], ◌∷◌, length, eqb}
use Rattle.spec_format.specs.Bytes.{pick, some, but, May, absent, is}
use Rattle.spec_format.specs.Utf8.{utf8}

-- what was read and what is left; no (nom's Error); or the input ended before that was clear (nom's Incomplete)
pub data Ans (A : Type 0) : Type 0 where
  got : A → List ℕ → Ans A
  no : Ans A
  cut : Ans A

abbrev pub bind : {A B : Type 0} → Ans A → (A → List ℕ → Ans B) → Ans B
bind (got a s) k = k a s
bind no k = no
bind cut k = cut

-- `map`
abbrev pub mapped : {A B : Type 0} → (A → B) → Ans A → Ans B
mapped f (got a s) = got (f a) s
mapped f no = no
mapped f cut = cut

-- `map_res`: no where what was read fails the test
abbrev pub passing : {A : Type 0} → (A → Bool) → Ans A → Ans A
passing p (got a s) = pick (p a) (got a s) no
passing p no = no
passing p cut = cut

-- `alt`: the other, where the first says no
abbrev pub or_else : {A : Type 0} → Ans A → Ans A → Ans A
or_else (got a s) b = got a s
or_else no b = b
or_else cut b = cut

-- `opt`, of a reader that was tried at s
abbrev pub optional : {A : Type 0} → List ℕ → Ans A → Ans (May A)
optional s (got a r) = got (is a) r
optional s no = got absent s
optional s cut = cut

-- `not`, and then the other
abbrev pub unless : {A B : Type 0} → Ans A → Ans B → Ans B
unless (got a s) b = no
unless no b = b
unless cut b = cut

-- `tag`; and `space_indent`, which is the tag of that many spaces
unfoldable pub tag : List ℕ → List ℕ → Ans Unit
tag [] s = got tt s
tag (c ∷ w) [] = cut
tag (c ∷ w) (b ∷ s) = elim (eqb b c) [ true ↦ tag w s | false ↦ no ]

-- one more byte in front of what was read
abbrev pub push : ℕ → Ans (List ℕ) → Ans (List ℕ)
push b (got t r) = got (b ∷ t) r
push b no = no
push b cut = cut

-- the bytes before the first that is p; there must be one: `take_till`
unfoldable pub until : (ℕ → Bool) → List ℕ → Ans (List ℕ)
until p [] = cut
until p (b ∷ s) = elim (p b) [ true ↦ got [] (b ∷ s) | false ↦ push b (until p s) ]

-- `is_not`: one such byte at least
abbrev pub until1 : (ℕ → Bool) → List ℕ → Ans (List ℕ)
until1 p s = passing some (until p s)

-- `is_a(" ")`
abbrev pub spaces1 : List ℕ → Ans (List ℕ)
spaces1 s = until1 (but 32) s

-- LF
abbrev pub line_feed : List ℕ → Ans (List ℕ)
line_feed [] = cut
line_feed (b ∷ s) = pick (eqb b 10) (got [] s) no

-- a line without its end: `not_line_ending` and `line_ending`. A line ends with LF or CR LF; any other CR is stray, but one that ends the input is cut
unfoldable pub line : List ℕ → Ans (List ℕ)
line [] = cut
line (b ∷ s) = elim (eqb b 10) [ true ↦ got [] s | false ↦ elim (eqb b 13) [ true ↦ line_feed s | false ↦ push b (line s) ] ]

-- `line_ending` alone: an empty line
unfoldable pub line_end : List ℕ → Ans (List ℕ)
line_end [] = cut
line_end (b ∷ s) = elim (eqb b 10) [ true ↦ got [] s | false ↦ elim (eqb b 13) [ true ↦ line_feed s | false ↦ no ] ]

-- `from_utf8` of what was read
abbrev pub utf8_of : Ans (List ℕ) → Ans (List ℕ)
utf8_of a = passing utf8 a

-- ---- loops: a turn takes one more member, or stops

pub data Turn (A : Type 0) : Type 0 where
  more : A → Turn A
  stop : Turn A

module _ {A : Type 0} (turn : List ℕ → Ans (Turn A)) where
  -- the members that were taken, in n turns at most
  unfoldable pub members_up_to : ℕ → List ℕ → List A
  members_up_to zero s = []
  members_up_to (suc n) s = elim (turn s) [ got t r ↦ elim t [ more a ↦ a ∷ members_up_to n r | stop ↦ [] ] | no ↦ [] | cut ↦ [] ]

  -- how the loop ended
  unfoldable pub end_up_to : ℕ → List ℕ → Ans Unit
  end_up_to zero s = no
  end_up_to (suc n) s = elim (turn s) [ got t r ↦ elim t [ more a ↦ end_up_to n r | stop ↦ got tt r ] | no ↦ no | cut ↦ cut ]

  -- each turn that goes on takes a byte at least, so there are no more turns than bytes
  unfoldable pub members : List ℕ → List A
  members s = members_up_to (suc (length s)) s

  unfoldable pub end : List ℕ → Ans Unit
  end s = end_up_to (suc (length s)) s

  abbrev pub loop : List ℕ → Ans (List A)
  loop s = bind (end s) λ _ r. got (members s) r

-- `many0`: as often as it fits; cut where the next one is cut
abbrev pub fitting : {A : Type 0} → List ℕ → Ans A → Ans (Turn A)
fitting s (got a r) = got (more a) r
fitting s no = got stop s
fitting s cut = cut

abbrev pub fit_turn : {A : Type 0} → (List ℕ → Ans A) → List ℕ → Ans (Turn A)
fit_turn p s = fitting s (p s)

abbrev pub many0 : {A : Type 0} → (List ℕ → Ans A) → List ℕ → Ans (List A)
many0 p s = loop (fit_turn p) s

-- `run_parser_many0` of stream_parser.rs: as often as it fits, whatever the next one says
abbrev pub trying : {A : Type 0} → List ℕ → Ans A → Ans (Turn A)
trying s (got a r) = got (more a) r
trying s no = got stop s
trying s cut = got stop s

abbrev pub try_turn : {A : Type 0} → (List ℕ → Ans A) → List ℕ → Ans (Turn A)
try_turn p s = trying s (p s)

abbrev pub while_fits : {A : Type 0} → (List ℕ → Ans A) → List ℕ → Ans (List A)
while_fits p s = loop (try_turn p) s
