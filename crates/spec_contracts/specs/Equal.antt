-- Rooms are equal where each of the seven is; so the contract's seven equations are one.
use Rattle.std.specs.Prelude.{ℕ, ◌≡◌, Bool, List}
use Rattle.std.proofs.Common.{ap, ◌∙◌}
use Rattle.spec_format.specs.Rooms.{Rooms, rooms_after, rooms_in}
use Rattle.spec_format.specs.declared.ReadAnswer.{ReadAnswer}
use Rattle.spec_contracts.specs.Reads.{Answered}

pub rooms_equal : (a b : Rooms) → a.texts ≡ b.texts → a.references ≡ b.references → a.comments ≡ b.comments → a.features ≡ b.features →
    a.qualifiers ≡ b.qualifiers → a.locations ≡ b.locations → a.letters ≡ b.letters → a ≡ b
rooms_equal a b t r c f q n l =
    ap (λ (x : List ℕ). rooms_in x a.references a.comments a.features a.qualifiers a.locations a.letters) t
    ∙ ap (λ (x : List ℕ). rooms_in b.texts x a.comments a.features a.qualifiers a.locations a.letters) r
    ∙ ap (λ (x : List ℕ). rooms_in b.texts b.references x a.features a.qualifiers a.locations a.letters) c
    ∙ ap (λ (x : List ℕ). rooms_in b.texts b.references b.comments x a.qualifiers a.locations a.letters) f
    ∙ ap (λ (x : List ℕ). rooms_in b.texts b.references b.comments b.features x a.locations a.letters) q
    ∙ ap (λ (x : List ℕ). rooms_in b.texts b.references b.comments b.features b.qualifiers x a.letters) n
    ∙ ap (λ (x : List ℕ). rooms_in b.texts b.references b.comments b.features b.qualifiers b.locations x) l

pub rooms_after_lem : (strict : Bool) (s : List ℕ) (at : ℕ) (old new : Rooms) (r : ReadAnswer) → Answered strict s at old new r → new ≡ rooms_after strict s at old
rooms_after_lem strict s at old new r a =
    rooms_equal new (rooms_after strict s at old) a.texts a.references a.comments a.features a.qualifiers a.locations a.letters
