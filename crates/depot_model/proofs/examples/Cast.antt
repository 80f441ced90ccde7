-- The nodes, updates and journals that the worked examples share.
--
-- Node 1 is the one that is looked at. Nodes 2 and 3 are others, 9 is one that may be faulty, and 7 is in no roster.
-- Ids and histories are real. A signature is written as the key's root, the leaf and the body, and the hash of a value,
-- where none is asked for, as a mark of its byte: they cost nothing to compute, and what is shown doesn't depend on
-- them.
use Rattle.std.specs.Prelude.{ℕ, ◌^◌, List, [], ◌∷◌, ◌++◌, ◌&&◌, nat_lt, replicate}
use Rattle.std.specs.Str.{bytes_eq}
use Rattle.depot_base.specs.Statement.{writer_of, seq_of}
use Rattle.depot_base.specs.Zeros.{zeros}
use Rattle.depot_base.specs.declared.update.Dep.{Dep}
use Rattle.depot_base.specs.declared.update.Update.{Update}
use Rattle.depot_base.specs.declared.voucher.Voucher.{Voucher}
use Rattle.depot_base.specs.declared.statement.Statement.{Statement}
use Rattle.depot_base.specs.declared.statement.Statement.TheVariants as statement
use Rattle.depot_base.specs.declared.statement.Signed.{Signed}
use Rattle.depot_base.specs.declared.proof.Kind.{Kind}
use Rattle.depot_base.specs.declared.proof.Kind.TheVariants.{SameNumber}
use Rattle.depot_base.specs.declared.proof.Proof.{Proof}
use Rattle.depot_base.specs.declared.proof.Proof.TheVariants.{Pair}
use Rattle.depot_base.specs.Writes.{put_one}
use Rattle.depot_base.specs.declared.key.RosterEntry.{RosterEntry}
use Rattle.depot_base.specs.declared.record.Record.{Record}
use Rattle.depot_base.specs.declared.record.Record.TheVariants.{Birth, Foreign, Conviction}
use Rattle.depot_model.specs.texts.Texts.{text_of_statement, id_of_update}
use Rattle.depot_model.specs.updates.History.{history_hash}
use Rattle.depot_model.specs.texts.Roster.{Verifies}
use Rattle.depot_model.specs.checks.Checks.{Setting}

-- ---- the nodes

-- 32 bytes that tell a number
abbrev pub mark : ℕ → List ℕ
mark n = replicate 31 0 ++ n ∷ []

-- a node with a tree of four leaves
abbrev pub member : ℕ → RosterEntry
member n = record { node = n; key = record { root = mark n; height = 2 } }

abbrev pub members : List RosterEntry
members = member 1 ∷ member 2 ∷ member 3 ∷ member 9 ∷ []

-- ---- signatures

abbrev pub written_by : List ℕ → ℕ → List ℕ → List ℕ
written_by root leaf body = root ++ leaf ∷ body

-- the signature is that of the key's root, and the leaf is one of the tree
abbrev pub is_written : Verifies
is_written key leaf body signature = nat_lt leaf (2 ^ key.height) && bytes_eq signature (written_by key.root leaf body)

-- the setting of node 1
abbrev pub here : Setting
here = record { verifies = is_written; me = 1; listed = members }

-- a statement that node n signed by a leaf
abbrev pub sign_as : ℕ → ℕ → Statement → Signed
sign_as n leaf s = record { statement = s; body = text_of_statement s; signature = written_by (mark n) leaf (text_of_statement s) }

-- a statement that its writer signed
abbrev pub sign : Statement → Signed
sign s = sign_as (writer_of s) (seq_of s) s

abbrev pub signed_update : Update → Signed
signed_update u = sign (statement.Update u)

abbrev pub signed_voucher : Voucher → Signed
signed_voucher v = sign (statement.Voucher v)

-- an update with no signature
abbrev pub forged : Update → Signed
forged u = record { statement = statement.Update u; body = text_of_statement (statement.Update u); signature = [] }

-- ---- updates and vouchers

-- SHA-256 of nothing: the history of one who has seen nothing
abbrev pub empty_history : List ℕ
empty_history = 227 ∷ 176 ∷ 196 ∷ 66 ∷ 152 ∷ 252 ∷ 28 ∷ 20 ∷ 154 ∷ 251 ∷ 244 ∷ 200 ∷ 153 ∷ 111 ∷ 185 ∷ 36 ∷ 39 ∷ 174 ∷ 65 ∷ 228 ∷ 100 ∷ 155 ∷ 147 ∷ 76 ∷ 164 ∷ 149 ∷ 153 ∷ 27 ∷ 120 ∷ 82 ∷ 184 ∷ 85 ∷ []

-- the first update of a writer, with a value of this one byte under the key "k", who has seen nothing
abbrev pub first_of : ℕ → ℕ → Update
first_of n value = record { writer = n; seq = 0; clock = 1; prev = zeros; writes = put_one (107 ∷ []) (mark value) 1; deps = []; history = empty_history }

-- the next update of the writer of t, who has seen nothing else
abbrev pub next_of : Update → Update
next_of t = record t { seq = 1; clock = 2; prev = id_of_update t; history = history_hash (t ∷ []) }

-- the first of node 1
abbrev pub one : Update
one = first_of 1 49

-- the first of node 2, its id, the entry that names it, and the history of one who has seen it alone
abbrev pub two : Update
two = first_of 2 50

abbrev pub two_id : List ℕ
two_id = 65 ∷ 192 ∷ 152 ∷ 239 ∷ 73 ∷ 225 ∷ 230 ∷ 248 ∷ 120 ∷ 243 ∷ 44 ∷ 147 ∷ 4 ∷ 105 ∷ 172 ∷ 132 ∷ 173 ∷ 242 ∷ 45 ∷ 117 ∷ 135 ∷ 175 ∷ 226 ∷ 99 ∷ 65 ∷ 125 ∷ 236 ∷ 174 ∷ 166 ∷ 216 ∷ 183 ∷ 175 ∷ []

abbrev pub two_entry : Dep
two_entry = record { writer = 2; clock = 1; id = two_id }

abbrev pub two_seen : List ℕ
two_seen = 240 ∷ 30 ∷ 135 ∷ 18 ∷ 94 ∷ 136 ∷ 138 ∷ 245 ∷ 35 ∷ 181 ∷ 139 ∷ 54 ∷ 251 ∷ 250 ∷ 94 ∷ 56 ∷ 195 ∷ 45 ∷ 100 ∷ 31 ∷ 173 ∷ 168 ∷ 16 ∷ 57 ∷ 228 ∷ 136 ∷ 101 ∷ 20 ∷ 179 ∷ 140 ∷ 23 ∷ 26 ∷ []

-- its next
abbrev pub two_more : Update
two_more = record two { seq = 1; clock = 2; prev = two_id; history = two_seen }

-- the first of node 3, which has seen the first of node 2
abbrev pub three : Update
three = record (first_of 3 51) { clock = 2; deps = two_entry ∷ []; history = two_seen }

-- the same for node 9
abbrev pub nine : Update
nine = first_of 9 97

abbrev pub nine_id : List ℕ
nine_id = 161 ∷ 92 ∷ 32 ∷ 95 ∷ 137 ∷ 7 ∷ 62 ∷ 180 ∷ 163 ∷ 144 ∷ 17 ∷ 171 ∷ 79 ∷ 186 ∷ 196 ∷ 190 ∷ 9 ∷ 149 ∷ 232 ∷ 175 ∷ 12 ∷ 157 ∷ 248 ∷ 130 ∷ 206 ∷ 50 ∷ 254 ∷ 107 ∷ 252 ∷ 11 ∷ 210 ∷ 133 ∷ []

abbrev pub nine_entry : Dep
nine_entry = record { writer = 9; clock = 1; id = nine_id }

abbrev pub nine_seen : List ℕ
nine_seen = 238 ∷ 197 ∷ 190 ∷ 63 ∷ 46 ∷ 253 ∷ 123 ∷ 115 ∷ 152 ∷ 148 ∷ 116 ∷ 91 ∷ 183 ∷ 209 ∷ 13 ∷ 165 ∷ 43 ∷ 241 ∷ 206 ∷ 211 ∷ 81 ∷ 147 ∷ 17 ∷ 162 ∷ 27 ∷ 210 ∷ 219 ∷ 161 ∷ 7 ∷ 216 ∷ 160 ∷ 204 ∷ []

abbrev pub nine_more : Update
nine_more = record nine { seq = 1; clock = 2; prev = nine_id; history = nine_seen }

-- another first update of node 9, with a greater body
abbrev pub nine_other : Update
nine_other = first_of 9 98

-- node n vouches for these ids in its first or a later statement
abbrev pub vouch : ℕ → ℕ → List (List ℕ) → Voucher
vouch n seq ids = record { node = n; seq = seq; ids = ids }

-- ---- proofs

abbrev pub pair : Kind → Signed → Signed → Proof
pair kind first second = Pair kind first second

abbrev pub against_nine : Proof
against_nine = pair SameNumber (signed_update nine) (signed_update nine_other)

-- ---- journals of node 1

abbrev pub born : List Record
born = Birth 1 zeros ∷ []

-- a journal that has taken an update, a voucher
abbrev pub took : Update → Record
took u = Foreign (signed_update u)

abbrev pub took_voucher : Voucher → Record
took_voucher v = Foreign (signed_voucher v)

abbrev pub from_two : List Record
from_two = born ++ took two ∷ []

abbrev pub from_nine : List Record
from_nine = born ++ took nine ∷ []

abbrev pub nine_convicted : List Record
nine_convicted = from_nine ++ Conviction against_nine ∷ []
