pub mod HeldParts
