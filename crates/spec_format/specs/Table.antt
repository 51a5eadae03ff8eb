-- The table: what a record holds ("The table" of document 01, and ticket 1's location rows). Two tables are equal if each text, row, number and letter is; where
-- texts, qualifiers and location rows lie in rooms is no part of a table.
use Rattle.std.specs.Prelude.{ℕ, Bool, List, Option}
use Rattle.spec_format.specs.declared.Date.{Date}
use Rattle.spec_format.specs.Bytes.{May}

pub record Locus : Type 0 where
  pub name : May (List ℕ)
  pub length : May ℕ
  pub molecule : May (List ℕ)
  pub circular : Bool
  pub division : List ℕ
  pub date : Option Date

pub record Source : Type 0 where
  pub text : List ℕ
  pub organism : May (List ℕ)

pub record Reference : Type 0 where
  pub text : List ℕ
  pub authors : May (List ℕ)
  pub consrtm : May (List ℕ)
  pub title : List ℕ
  pub journal : May (List ℕ)
  pub pubmed : May (List ℕ)
  pub remark : May (List ℕ)

pub record Qualifier : Type 0 where
  pub key : List ℕ
  pub value : May (List ℕ)

-- a part of a location (document 02, ticket 1). The form: 1 base n, 2 range n..m, 3 between n^m, 4 complement( ), 5 join( ), 6 order( ), 7 gap( ); of a range the
-- marks, 1 for `<` and 2 for `>`; n and m, a base n as both; where in the location's text its accession stands with its version, or a gap's
-- inner text; of a word how many rows belong to it, which stand right before it. What a part does not have is 0
pub record LocationRow : Type 0 where
  pub form : ℕ
  pub marks : ℕ
  pub from : ℕ
  pub to : ℕ
  pub start : ℕ
  pub length : ℕ
  pub inside : ℕ

pub record Feature : Type 0 where
  pub kind : List ℕ
  pub location : List ℕ
  pub qualifiers : List Qualifier
  pub rows : List LocationRow

pub record Contig : Type 0 where
  pub text : List ℕ
  pub rows : List LocationRow

pub record Table : Type 0 where
  pub locus : Locus
  pub definition : May (List ℕ)
  pub accession : May (List ℕ)
  pub version : May (List ℕ)
  pub dblink : May (List ℕ)
  pub keywords : May (List ℕ)
  pub source : May Source
  pub references : List Reference
  pub comments : List (List ℕ)
  pub features : List Feature
  pub contig : May Contig
  pub letters : List ℕ
