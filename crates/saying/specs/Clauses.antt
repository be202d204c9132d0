-- What the crate's functions ask and say.
use Rattle.std.specs.Prelude.{◌≡◌, List, ℕ, ◌*◌, ◌/◌, ◌^◌, ◌≤◌, ◌<◌, ℤ, length, take, Result, Ok, Err}
use Rattle.rules.specs.Limits.{width}
use Rattle.rules.specs.Pass.{over}
use Rattle.spelling.specs.Sizes.{list_gates}
use Rattle.spelling.specs.Reading.{read, read_text}
use Rattle.spelling.specs.Texts as Texts
use Rattle.spelling.specs.Heads.{head_of}
use Rattle.spelling.specs.declared.Head.{Head}
use Rattle.saying.specs.Answer.{Answer, Next, answer_by}
use Rattle.saying.specs.declared.Said.{Said}
use Rattle.saying.specs.declared.Reason.{Reason}
use Rattle.saying.specs.Reasons.{place_of, told}

-- an answer in the room: the room begins with its bytes, of the length that is returned, and the rest is untouched
pub record Says (a : Answer) (room : List ℕ) (r : Said) (room' : List ℕ) : Type 0 where
  pub text : room' ≡ over a.text room
  pub size : r.length ≡ length a.text
  pub fits : r.length ≤ length room
  pub refused : r.refused ≡ a.refused

-- whole gates, and no more than may be
pub record Few (numbers : List ℤ) : Type 0 where
  pub whole : width * (length numbers / width) ≡ length numbers
  pub few : length numbers / width ≤ list_gates

-- a refusal is the answer, whatever the program says of a list; its place is a number of the text
pub record Declined (by : Next → List ℕ → Answer) (text : List ℕ) (e : Reason) : Type 0 where
  pub is : (next : Next) → by next text ≡ told e
  pub small : place_of e < 2 ^ 32

-- what a text that was read leaves in the numbers' room: whole gates, not too many, and all of them there. What the program says of them is the answer
pub record Held (text : List ℕ) (numbers' : List ℤ) (h : Head) (n : ℕ) : Type 0 where
  pub most : n ≤ list_gates
  pub fits : width * n ≤ length numbers'
  pub few : Few (take (width * n) numbers')
  pub reads : read_text list_gates text ≡ read (head_of h) (take (width * n) numbers')
  pub answer : (next : Next) → answer_by next text ≡ next (head_of h) (take (width * n) numbers')

abbrev pub Takes : List ℕ → List ℤ → Result (Head × ℕ) Reason → Type 0
Takes text numbers' (Ok p) = Held text numbers' p.0 p.1
Takes text numbers' (Err e) = Declined answer_by text e

-- the same, of any way to take a text, with what is known of a list that was read
pub record Kept (by : Next → List ℕ → Answer) (right : Texts.Head → List ℤ → Type 0) (text : List ℕ) (numbers' : List ℤ) (h : Head) (n : ℕ) : Type 0 where
  pub most : n ≤ list_gates
  pub fits : width * n ≤ length numbers'
  pub few : Few (take (width * n) numbers')
  pub known : right (head_of h) (take (width * n) numbers')
  pub answer : (next : Next) → by next text ≡ next (head_of h) (take (width * n) numbers')

abbrev pub Given : (Next → List ℕ → Answer) → (Texts.Head → List ℤ → Type 0) → List ℕ → List ℤ → Result (Head × ℕ) Reason → Type 0
Given by right text numbers' (Ok p) = Kept by right text numbers' p.0 p.1
Given by right text numbers' (Err e) = Declined by text e

-- nothing is known of a list but that it was read
abbrev pub any_list : Texts.Head → List ℤ → Type 0
any_list h numbers = Unit {0}
