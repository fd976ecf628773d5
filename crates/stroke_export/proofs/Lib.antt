mod Writings
