-- UTF-8: the table of well-formed byte sequences of the Unicode Standard (table 3-7), read byte by byte. `str::from_utf8` of the Rust.
use Rattle.std.specs.Prelude.{ℕ, zero, suc, Bool, true, false, List, [], ◌∷◌, eqb, ltb}
use Rattle.spec_format.specs.Bytes.{between}

-- n more bytes of a character, the next of them lo to hi; and then characters
unfoldable pub chars : ℕ → ℕ → ℕ → List ℕ → Bool
chars zero lo hi [] = true
chars (suc n) lo hi [] = false
chars (suc n) lo hi (b ∷ s) = elim (between lo hi b) [ true ↦ chars n 128 191 s | false ↦ false ]
chars zero lo hi (b ∷ s) = elim (ltb b 128) [
  | true ↦ chars 0 0 0 s
  | false ↦
      elim (between 194 223 b) [
        | true ↦ chars 1 128 191 s
        | false ↦
            elim (eqb b 224) [
              | true ↦ chars 2 160 191 s
              | false ↦
                  elim (eqb b 237) [
                    | true ↦ chars 2 128 159 s
                    | false ↦
                        elim (between 225 239 b) [
                          | true ↦ chars 2 128 191 s
                          | false ↦
                              elim (eqb b 240) [
                                | true ↦ chars 3 144 191 s
                                | false ↦
                                    elim (between 241 243 b) [
                                      | true ↦ chars 3 128 191 s
                                      | false ↦
                                          elim (eqb b 244) [ true ↦ chars 3 128 143 s | false ↦ false ]
                                    ]
                              ]
                        ]
                  ]
            ]
      ]
]

unfoldable pub utf8 : List ℕ → Bool
utf8 s = chars 0 0 0 s
