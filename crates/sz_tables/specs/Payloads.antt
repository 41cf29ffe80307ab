-- Payloads by number, each different one once.
use Rattle.std.specs.Prelude.{◌≡◌, ℕ, ◌+◌, ◌-◌, ◌*◌, ◌%◌, ◌<◌, ◌≤◌, max, fold, map, All, List}
use Rattle.std.specs.Prelude.{[], length, take, drop, unwrap_or}
use Rattle.std.specs.List.{slice_get}
use Rattle.sz_tables.specs.Filed.{Filed, Files}
use Rattle.sz_tables.specs.Tables.{AreDifferent, slices_by_number}
use Rattle.sz_tables.specs.declared.spans.Span.{Span}

-- what is seen of a table of payloads: their bytes in the order of their numbers, for how many
-- payloads and how many bytes there is room without more memory, and the capacities of the lists
-- that are kept
pub record PayloadsByNumber : Type 0 where
  pub payloads : List (List ℕ)
  pub spare_payloads : ℕ
  pub spare_bytes : ℕ
  pub capacities : List ℕ

-- the payload of a number
abbrev pub payload_at : List (List ℕ) → ℕ → List ℕ
payload_at payloads n = unwrap_or (slice_get payloads n) []

-- what a payload is mixed to: its length, the first 32 of its bytes, and the last 32
abbrev pub mixed_byte : ℕ → ℕ → ℕ
mixed_byte h b = (h * 16777619 + b) % 4294967296

abbrev pub first_bytes_mixed : List ℕ → ℕ
first_bytes_mixed bytes = fold mixed_byte (length bytes % 4294967296) (take 32 bytes)

abbrev pub payload_mix : List ℕ → ℕ
payload_mix bytes =
    fold mixed_byte (first_bytes_mixed bytes) (drop (max 32 (length bytes - 32)) bytes)

-- the entry of a payload, under so many keys
abbrev pub payload_filed : ℕ → List ℕ → Filed
payload_filed keys bytes = record { key = payload_mix bytes % keys; item = payload_mix bytes }

-- spans are within the list of bytes and give the payloads, no two of which are one, and each
-- payload is filed by its bytes
pub record AreKept (bytes : List ℕ) (spans : List Span) (index : Files) : Type 0 where
  pub within : All (λ s. (s.start ≤ s.end) × (s.end ≤ length bytes)) spans
  pub different : AreDifferent (slices_by_number bytes spans)
  pub keys : 0 < index.keys
  pub filed : index.entries ≡ map (payload_filed index.keys) (slices_by_number bytes spans)
