pub mod Subalgebras
